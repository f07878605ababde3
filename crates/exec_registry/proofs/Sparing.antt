-- Which live queries a row may be spared.
use Rattle.std.proofs.Common.{◌≡◌, ◌≢◌, ℕ, ℤ, ◌<◌, ◌≤◌, List, [], ◌∷◌, ◌++◌, length, slice_set, sym, ap, ◌∙◌, subst, arith, slice_index_or, slice_get, bit_or, true, false, refl, replicate, Option, Some, None, inl, inr}
use Rattle.std.specs.Int.{bit_at}
use Rattle.std.specs.List.{list_all}
use Rattle.std.specs.Option.{is_none}
use Rattle.std.proofs.lemmas.Bool.{cases_eq, cases_lt}
use Rattle.std.proofs.lemmas.List.{get_or_append_left, length-append, get_or-set_same, get_or-set_other, length-set, get_or-replicate, get_or_past, length-replicate}
use Rattle.std.proofs.lemmas.List.Folds.{list_all_at}
use Rattle.std.proofs.Math.Seq.{get_or-append_seam}
use Rattle.std.proofs.lemmas.Nat.Bits.{bit_at_or, bit_at-lt}
use Rattle.std.proofs.lemmas.Option.{slice_get_within, slice_get-get_or, get_or_from_slice_get}
use Rattle.exec_query_index.specs.declared.boxes.QueryBox.{QueryBox}
use Rattle.exec_query_index.specs.declared.candidates.Candidates.{Candidates}
use Rattle.exec_query_index.specs.Boxes.{IsInside}
use Rattle.exec_query_index.specs.Buckets.{AreFor}
use Rattle.sem_query.specs.declared.plan.Plan.{Plan}
use Rattle.sem_query.specs.Query.{QueryValue}
use Rattle.sem_query.specs.Meaning.{Arrival}
use Rattle.exec_query.specs.Executor.{ExecutorValue, arrival, with_given}
use Rattle.exec_filter.specs.Prefilter.{IsRefused}
use Rattle.exec_query.specs.Passing.{IsBoxFor}
use Rattle.exec_registry.specs.declared.concerned.Concerned.{Concerned}
use Rattle.exec_registry.specs.declared.concerned.Listing.{Listing}
use Rattle.exec_registry.specs.declared.concerned.Listing.TheVariants.{Unlisted, Spared}
use Rattle.exec_registry.specs.Live.{Live}
use Rattle.exec_registry.specs.Concerned.{AreBoxes, IsListed, IsTold, MayConcern, SparesStream}
use Rattle.exec_registry.specs.Waiting.{AreQuiet}
use Rattle.exec_registry.specs.RowByQuery.{AreSpared}

left_off : (a b k : ℕ) → bit_at (bit_or a b) k ≡ 0 → bit_at a k ≡ 0
left_off a b k h = (let m = bit_at_or a b k in omega (arith, m, h))

right_off : (a b k : ℕ) → bit_at (bit_or a b) k ≡ 0 → bit_at b k ≡ 0
right_off a b k h = (let m = bit_at_or a b k in omega (arith, m, h))

-- those that have no bit in either word
pub spared : (a b : ℕ) (r : Arrival) (live : List Live) → MayConcern a r live → AreQuiet b live → AreSpared (bit_or a b) r live
spared a b r live may quiet = record {
  only = λ k on. elim (cases_eq (bit_at a k) 1) [
    | inl e ↦ may.only k e
    | inr ne ↦ quiet.only k (let m = bit_at_or a b k in let x = bit_at-lt a k in let y = bit_at-lt b k in omega (arith, m, x, y, on, ne))
  ];
  refused = λ k l within off. may.refused k l within (left_off a b k off);
  quiet = λ k l within off. quiet.quiet k l within (right_off a b k off);
}

-- the candidates of a stream may concern
pub listed_concerns : (word stream : ℕ) (row : List ℤ) (c : Candidates) (live : List Live) → IsListed stream c live
    → ((boxes : List (Option QueryBox)) → AreFor boxes c → (k : ℕ) (box : QueryBox) → slice_get boxes k ≡ Some (Some box) → IsInside box row → bit_at word k ≡ 1)
    → ((boxes : List (Option QueryBox)) → AreFor boxes c → (k : ℕ) → bit_at word k ≡ 1 → k < length boxes)
    → MayConcern word (arrival stream row) live
listed_concerns word stream row c live listed held only =
    let size = listed.own.size in
    record {
      only = λ k on. (let f = only listed.boxes listed.are k on in omega (arith, f, size));
      refused = λ k l within off.
          (let own = slice_index_or listed.boxes k None in
          let there : slice_get listed.boxes k ≡ Some own = slice_get-get_or listed.boxes k None (omega (arith, within, size)) in
          by (slice_index_or live k l).executor.query (slice_index_or live k l).executor.plan k off own there (listed.own.each k l own there));
    }
  where
    by : (q : QueryValue) (p : Plan) (k : ℕ) → bit_at word k ≡ 0 → (own : Option QueryBox) → slice_get listed.boxes k ≡ Some own → IsBoxFor q p stream own → IsRefused q p (arrival stream row)
    by q p k off None there is = is row
    by q p k off (Some box) there is = is row (λ inside. let on = held listed.boxes listed.are k box there inside in omega (arith, on, off))

-- where there is no box, each row is refused
none_at : (boxes : List (Option QueryBox)) (k : ℕ) → k < length boxes → list_all is_none boxes ≡ true → slice_index_or boxes k None ≡ None
none_at boxes k within none = by (slice_index_or boxes k None) refl
  where
    true_not_false : true ≡ false → ⊥
    true_not_false e = cc

    by : (own : Option QueryBox) → slice_index_or boxes k None ≡ own → own ≡ None
    by None e = refl
    by (Some box) e = absurd (true_not_false (sym none ∙ list_all_at is_none boxes k None within (ap is_none e)))

pub none_spares : (stream : ℕ) (boxes : List (Option QueryBox)) (live : List Live) → AreBoxes stream boxes live → list_all is_none boxes ≡ true → SparesStream stream live
none_spares stream boxes live own none = λ k l within values.
    let size = own.size in
    let here : k < length boxes = omega (arith, within, size) in
    let there : slice_get boxes k ≡ Some None = slice_get-get_or boxes k None here ∙ ap (λ (o : Option QueryBox). Some o) (none_at boxes k here none) in
    own.each k l None there values

-- live queries that ask the same by the same plans have the same candidates
pub told_kept : (c : Concerned) (before after : List Live) → length after ≡ length before
    → ((i : ℕ) (l : Live) → i < length before → (slice_index_or after i l).executor.query ≡ (slice_index_or before i l).executor.query)
    → ((i : ℕ) (l : Live) → i < length before → (slice_index_or after i l).executor.plan ≡ (slice_index_or before i l).executor.plan)
    → IsTold c before → IsTold c after
told_kept c before after size asks plans told = record {
  streams = told.streams;
  size = told.size;
  within = told.within;
  listed = λ stream own on there.
      (let was = told.listed stream own on there in
      let many = was.own.size in
      record {
        boxes = was.boxes;
        own = record {
          size = was.own.size ∙ sym size;
          each = λ k l box here.
              (let within : k < length before = (let w = slice_get_within was.boxes k box here in omega (arith, w, many)) in
              subst (λ (p : Plan). IsBoxFor (slice_index_or after k l).executor.query p stream box) (sym (plans k l within))
              (subst (λ (q : QueryValue). IsBoxFor q (slice_index_or before k l).executor.plan stream box) (sym (asks k l within)) (was.own.each k l box here)));
        };
        are = was.are;
      });
  spared = λ stream is k l a values.
      (let within : k < length before = omega (arith, a, size) in
      subst (λ (p : Plan). IsRefused (slice_index_or after k l).executor.query p (arrival stream values)) (sym (plans k l within))
      (subst (λ (q : QueryValue). IsRefused q (slice_index_or before k l).executor.plan (arrival stream values)) (sym (asks k l within)) (told.spared stream is k l within values)));
}

-- one more box
pub boxes_more : (stream : ℕ) (live : List Live) (boxes new : List (Option QueryBox)) (own : Option QueryBox) (n : ℕ) (e : ExecutorValue) → new ≡ boxes ++ own ∷ [] → length boxes ≡ n
    → ((d : Live) → (slice_index_or live n d).executor ≡ with_given e (slice_index_or live n d).executor.given e.table.entries)
    → ((k : ℕ) (l : Live) (o : Option QueryBox) → slice_get boxes k ≡ Some o → IsBoxFor (slice_index_or live k l).executor.query (slice_index_or live k l).executor.plan stream o)
    → IsBoxFor e.query e.plan stream own
    → (k : ℕ) (l : Live) (o : Option QueryBox) → slice_get new k ≡ Some o → IsBoxFor (slice_index_or live k l).executor.query (slice_index_or live k l).executor.plan stream o
boxes_more stream live boxes new own n e is size runs each box k l o there =
    let here : slice_get (boxes ++ own ∷ []) k ≡ Some o = ap (λ (xs : List (Option QueryBox)). slice_get xs k) (sym is) ∙ there in
    elim (cases_lt k (length boxes)) [
      | inl h ↦
          let at : slice_index_or (boxes ++ own ∷ []) k o ≡ o = get_or_from_slice_get (boxes ++ own ∷ []) k o o here in
          each k l o (slice_get-get_or boxes k o h ∙ ap (λ (z : Option QueryBox). Some z) (sym (get_or_append_left boxes (own ∷ []) o k h) ∙ at))
      | inr h ↦
          let within = slice_get_within (boxes ++ own ∷ []) k o here in
          let all = length-append boxes (own ∷ []) in
          let last : length boxes ≡ k = omega (arith, within, all, h) in
          let at : slice_index_or (boxes ++ own ∷ []) k o ≡ o = get_or_from_slice_get (boxes ++ own ∷ []) k o o here in
          let same : own ≡ o = sym (get_or-append_seam boxes own [] o) ∙ ap (λ (j : ℕ). slice_index_or (boxes ++ own ∷ []) j o) last ∙ at in
          let place : n ≡ k = omega (arith, last, size) in
          let run = subst (λ (j : ℕ). (d : Live) → (slice_index_or live j d).executor ≡ with_given e (slice_index_or live j d).executor.given e.table.entries) place runs in
          subst (λ (q : QueryValue). IsBoxFor q (slice_index_or live k l).executor.plan stream o) (sym (ap (λ (x : ExecutorValue). x.query) (run l)))
          (subst (λ (p : Plan). IsBoxFor e.query p stream o) (sym (ap (λ (x : ExecutorValue). x.plan) (run l)))
          (subst (λ (b : Option QueryBox). IsBoxFor e.query e.plan stream b) same box))
    ]

-- where nothing is known of the rows of any stream
pub told_none : (c : Concerned) (live : List Live) → length c.streams.items ≤ 16 → c.listings ≡ replicate 256 Unlisted → IsTold c live
told_none c live few none = record {
  streams = few;
  size = ap (λ (ls : List Listing). length ls) none ∙ length-replicate 256 Unlisted;
  within = λ stream known. absurd (known (unlisted stream));
  listed = λ stream own known there. absurd (known (unlisted stream));
  spared = λ stream is. absurd (other (sym (unlisted stream) ∙ is));
}
  where
    all_unlisted : (n stream : ℕ) → slice_index_or (replicate n Unlisted) stream Unlisted ≡ Unlisted
    all_unlisted n stream = elim (cases_lt stream n) [
      | inl h ↦ get_or-replicate n stream Unlisted Unlisted h
      | inr h ↦ get_or_past (replicate n Unlisted) stream Unlisted (let size = length-replicate n Unlisted in omega (arith, size, h))
    ]

    unlisted : (stream : ℕ) → slice_index_or c.listings stream Unlisted ≡ Unlisted
    unlisted stream = ap (λ (ls : List Listing). slice_index_or ls stream Unlisted) none ∙ all_unlisted 256 stream

    other : Unlisted ≡ Spared → ⊥
    other e = cc

-- what is noted of a stream is known of it
noted_there : (before after : List Listing) (n : ℕ) (mark : Listing) → n < length before → after ≡ slice_set before n mark → slice_index_or after n Unlisted ≡ mark
noted_there before after n mark inside is = ap (λ (ls : List Listing). slice_index_or ls n Unlisted) is ∙ get_or-set_same before n mark Unlisted inside

pub noted_known : (before : List Listing) (n s : ℕ) (mark : Listing) → n < length before → n ≡ s → mark ≢ Unlisted → slice_index_or (slice_set before n mark) s Unlisted ≢ Unlisted
noted_known before n s mark inside e known is =
    known (sym (noted_there before (slice_set before n mark) n mark inside refl) ∙ ap (λ (k : ℕ). slice_index_or (slice_set before n mark) k Unlisted) e ∙ is)

-- one more stream is listed
pub lists_one : (live : List Live) (before after : Concerned) (n : ℕ) (new : Candidates) (mark : Listing) → n < length before.streams.items → IsTold before live → IsListed n new live → (mark ≡ Spared → SparesStream n live)
    → after.streams.items ≡ slice_set before.streams.items n new → after.listings ≡ slice_set before.listings n mark → IsTold after live
lists_one live before after n new mark inside told own spares is marked =
    let now = before.streams.items in
    let size = ap (λ (xs : List Candidates). length xs) is in
    let same = length-set now n new in
    let few = told.streams in
    let many = told.size in
    let other : (s : ℕ) → s ≢ n → slice_index_or after.listings s Unlisted ≡ slice_index_or before.listings s Unlisted
    = λ s ne. ap (λ (ls : List Listing). slice_index_or ls s Unlisted) marked ∙ get_or-set_other before.listings n s mark Unlisted ne in
    let was : (s : ℕ) → s ≢ n → slice_index_or after.listings s Unlisted ≢ Unlisted → slice_index_or before.listings s Unlisted ≢ Unlisted
    = λ s ne known e. known (other s ne ∙ e) in
    let there : slice_index_or after.listings n Unlisted ≡ mark = noted_there before.listings after.listings n mark (omega (arith, inside, few, many)) marked in
    record {
      streams = omega (arith, size, same, few);
      size = ap (λ (ls : List Listing). length ls) marked ∙ length-set before.listings n mark ∙ told.size;
      within = λ s known. elim (cases_eq s n) [
        | inl e ↦ omega (arith, e, inside, size, same)
        | inr ne ↦ (let w = told.within s (was s ne known) in omega (arith, w, size, same))
      ];
      listed = λ s c known found.
          (let e : slice_get (slice_set now n new) s ≡ Some c = ap (λ (xs : List Candidates). slice_get xs s) (sym is) ∙ found in
          let at : slice_index_or (slice_set now n new) s c ≡ c = get_or_from_slice_get (slice_set now n new) s c c e in
          elim (cases_eq s n) [
            | inl here ↦
                let mine : new ≡ c = sym (get_or-set_same now n new c inside) ∙ ap (λ (k : ℕ). slice_index_or (slice_set now n new) k c) (sym here) ∙ at in
                subst (λ (k : ℕ). IsListed k c live) (sym here) (subst (λ (z : Candidates). IsListed n z live) mine own)
            | inr ne ↦
                let within = slice_get_within (slice_set now n new) s c e in
                let all = length-set now n new in
                told.listed s c (was s ne known)
                (slice_get-get_or now s c (omega (arith, within, all)) ∙ ap (λ (z : Candidates). Some z) (sym (get_or-set_other now n s new c ne) ∙ at))
          ]);
      spared = λ s spare. elim (cases_eq s n) [
        | inl here ↦ subst (λ (k : ℕ). SparesStream k live) (sym here) (spares (sym there ∙ ap (λ (k : ℕ). slice_index_or after.listings k Unlisted) (sym here) ∙ spare))
        | inr ne ↦ told.spared s (sym (other s ne) ∙ spare)
      ];
    }
