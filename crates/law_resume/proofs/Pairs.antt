-- Two live queries, each at its place in one of two lists: they are the same, or alike and each sound.
use Rattle.std.proofs.Common.{◌≡◌, ℕ, ◌+◌, ◌≤◌, ◌^◌, Bool, true, false, cond, List, [], ◌∷◌, ◌++◌, map, flat_map, refl, sym, ap, ◌∙◌, All}
use Rattle.std.specs.List.{sum_by}
use Rattle.std.specs.Str.{bytes_eq}
use Rattle.std.proofs.lemmas.List.Elements.{All-head, All-tail}
use Rattle.std.proofs.lemmas.List.Sums.{sum_by-cons}
use Rattle.sql_text.specs.Tuple.{tuple_line}
use Rattle.sem_query.specs.Meaning.{Arrival}
use Rattle.sem_query.specs.Numbers.{parts_of}
use Rattle.sem_query.specs.Bases.{answers_from, kept_row}
use Rattle.sql_catalog.specs.Streams.{Shape, KeepsDomains}
use Rattle.sql_parser.proofs.Placed.{stays_named}
use Rattle.exec_registry.specs.Live.{LiveQuery, boxes_for, base_in, with_row, without}
use Rattle.cmd_session.specs.Replies.{answers_to}
use Rattle.cmd_session.specs.Restoring.{IsAlike, AreAllAlike}
use Rattle.law_resume.specs.Sound.{IsSoundIn}
use Rattle.law_resume.proofs.FreshBases.{answers_by_kept, kept_after_row, sound_after_row}

pub data Pair (streams : List Shape) (taken : ℕ) (q p : LiveQuery) : Type 0 where
  same : q ≡ p → Pair streams taken q p
  alike : IsAlike q p → IsSoundIn streams taken q → IsSoundIn streams taken p → Pair streams taken q p

abbrev pub Pairs : List Shape → ℕ → List LiveQuery → List LiveQuery → Type 0
Pairs streams taken [] [] = Unit {0}
Pairs streams taken [] (p ∷ ps) = ⊥
Pairs streams taken (q ∷ qs) [] = ⊥
Pairs streams taken (q ∷ qs) (p ∷ ps) = Pair streams taken q p × Pairs streams taken qs ps

pub are_alike : (streams : List Shape) (taken : ℕ) (q p : LiveQuery) → Pair streams taken q p → IsAlike q p
are_alike streams taken q p (same e) = record { name = (λ j. (e j).name); query = (λ j. (e j).query); shared = (λ j. (e j).shared); plan = (λ j. (e j).plan); kept = ap base_in e }
are_alike streams taken q p (alike a s t) = a

pub all_are_alike : (streams : List Shape) (taken : ℕ) (qs ps : List LiveQuery) → Pairs streams taken qs ps → AreAllAlike qs ps
all_are_alike streams taken [] [] h = tt
all_are_alike streams taken [] (p ∷ ps) h = absurd h
all_are_alike streams taken (q ∷ qs) [] h = absurd h
all_are_alike streams taken (q ∷ qs) (p ∷ ps) h = (are_alike streams taken q p h.0, all_are_alike streams taken qs ps h.1)

pub pairs_of : (streams : List Shape) (taken : ℕ) (qs ps : List LiveQuery) → AreAllAlike qs ps → All (IsSoundIn streams taken) qs → All (IsSoundIn streams taken) ps → Pairs streams taken qs ps
pairs_of streams taken [] [] a s t = tt
pairs_of streams taken [] (p ∷ ps) a s t = absurd a
pairs_of streams taken (q ∷ qs) [] a s t = absurd a
pairs_of streams taken (q ∷ qs) (p ∷ ps) a s t = (
  alike a.0 (All-head (IsSoundIn streams taken) q qs s) (All-head (IsSoundIn streams taken) p ps t),
  pairs_of streams taken qs ps a.1 (All-tail (IsSoundIn streams taken) q qs s) (All-tail (IsSoundIn streams taken) p ps t),
)

-- what is read off live queries that are alike, one by one, is the same
pub same_map : {X : Type 0} (f : LiveQuery → X) → ((q p : LiveQuery) → IsAlike q p → f q ≡ f p) → (qs ps : List LiveQuery) → AreAllAlike qs ps → map f qs ≡ map f ps
same_map f e [] [] h = refl
same_map f e [] (p ∷ ps) h = absurd h
same_map f e (q ∷ qs) [] h = absurd h
same_map f e (q ∷ qs) (p ∷ ps) h = (let first = e q p h.0 in let rest = same_map f e qs ps h.1 in λ j. first j ∷ rest j)

pub same_sum : (f : LiveQuery → ℕ) → ((q p : LiveQuery) → IsAlike q p → f q ≡ f p) → (qs ps : List LiveQuery) → AreAllAlike qs ps → sum_by f qs ≡ sum_by f ps
same_sum f e [] [] h = refl
same_sum f e [] (p ∷ ps) h = absurd h
same_sum f e (q ∷ qs) [] h = absurd h
same_sum f e (q ∷ qs) (p ∷ ps) h =
    sum_by-cons f q qs ∙ (let first = e q p h.0 in let rest = same_sum f e qs ps h.1 in λ j. first j + rest j) ∙ sym (sum_by-cons f p ps)

-- a row is answered the same
one_answered : (streams : List Shape) (taken : ℕ) (r : Arrival) → taken ≤ 2 ^ 40 → KeepsDomains streams r.stream r.values → (q p : LiveQuery) → Pair streams taken q p → answers_to r q ≡ answers_to r p
one_answered streams taken r few keeps q p (same e) = ap (answers_to r) e
one_answered streams taken r few keeps q p (alike a s t) =
    ap (λ ts. flat_map (tuple_line q.name) ts) (answers_by_kept streams taken q r s few keeps)
    ∙ (λ j. flat_map (tuple_line (a.name j)) (answers_from (a.query j) (parts_of (a.plan j)) (a.kept j) r))
    ∙ sym (ap (λ ts. flat_map (tuple_line p.name) ts) (answers_by_kept streams taken p r t few keeps))

pub all_answered : (streams : List Shape) (taken : ℕ) (r : Arrival) → taken ≤ 2 ^ 40 → KeepsDomains streams r.stream r.values → (qs ps : List LiveQuery) → Pairs streams taken qs ps
    → flat_map (answers_to r) qs ≡ flat_map (answers_to r) ps
all_answered streams taken r few keeps [] [] h = refl
all_answered streams taken r few keeps [] (p ∷ ps) h = absurd h
all_answered streams taken r few keeps (q ∷ qs) [] h = absurd h
all_answered streams taken r few keeps (q ∷ qs) (p ∷ ps) h =
    let first = one_answered streams taken r few keeps q p h.0 in
    let rest = all_answered streams taken r few keeps qs ps h.1 in
    λ j. first j ++ rest j

-- and they stay such after it
one_more_row : (streams : List Shape) (taken : ℕ) (r : Arrival) → KeepsDomains streams r.stream r.values → (q p : LiveQuery) → Pair streams taken q p → Pair streams (taken + 1) (with_row r q) (with_row r p)
one_more_row streams taken r keeps q p (same e) = same (ap (with_row r) e)
one_more_row streams taken r keeps q p (alike a s t) =
    alike
    (record {
      name = a.name;
      query = a.query;
      shared = a.shared;
      plan = a.plan;
      kept =
          kept_after_row streams taken q r s
          ∙ (λ j. kept_row (a.query j) (parts_of (a.plan j)) (boxes_for (a.query j) (a.shared j) (a.plan j)) (a.kept j) r)
          ∙ sym (kept_after_row streams taken p r t);
    })
    (sound_after_row streams taken q r s keeps) (sound_after_row streams taken p r t keeps)

pub more_rows : (streams : List Shape) (taken : ℕ) (r : Arrival) → KeepsDomains streams r.stream r.values → (qs ps : List LiveQuery) → Pairs streams taken qs ps
    → Pairs streams (taken + 1) (map (with_row r) qs) (map (with_row r) ps)
more_rows streams taken r keeps [] [] h = tt
more_rows streams taken r keeps [] (p ∷ ps) h = absurd h
more_rows streams taken r keeps (q ∷ qs) [] h = absurd h
more_rows streams taken r keeps (q ∷ qs) (p ∷ ps) h = (one_more_row streams taken r keeps q p h.0, more_rows streams taken r keeps qs ps h.1)

-- so after a stream was added
sound_with_more : (streams more : List Shape) (taken : ℕ) (q : LiveQuery) → IsSoundIn streams taken q → IsSoundIn (streams ++ more) taken q
sound_with_more streams more taken q s = record {
  limits = s.limits;
  met = s.met;
  named = stays_named streams more q.query s.named;
  plan = s.plan;
  rows = s.rows;
  size = s.size;
  given = s.given;
}

one_with_more : (streams more : List Shape) (taken : ℕ) (q p : LiveQuery) → Pair streams taken q p → Pair (streams ++ more) taken q p
one_with_more streams more taken q p (same e) = same e
one_with_more streams more taken q p (alike a s t) = alike a (sound_with_more streams more taken q s) (sound_with_more streams more taken p t)

pub more_streams : (streams more : List Shape) (taken : ℕ) (qs ps : List LiveQuery) → Pairs streams taken qs ps → Pairs (streams ++ more) taken qs ps
more_streams streams more taken [] [] h = tt
more_streams streams more taken [] (p ∷ ps) h = absurd h
more_streams streams more taken (q ∷ qs) [] h = absurd h
more_streams streams more taken (q ∷ qs) (p ∷ ps) h = (one_with_more streams more taken q p h.0, more_streams streams more taken qs ps h.1)

-- after a query was dropped
dropped_here : (streams : List Shape) (taken : ℕ) (b c : Bool) (q p : LiveQuery) (qs ps us vs : List LiveQuery) → b ≡ c → Pair streams taken q p → Pairs streams taken qs ps → Pairs streams taken us vs
    → Pairs streams taken (cond b qs (q ∷ us)) (cond c ps (p ∷ vs))
dropped_here streams taken true true q p qs ps us vs e one rest others = rest
dropped_here streams taken true false q p qs ps us vs e one rest others = absurd cc
dropped_here streams taken false true q p qs ps us vs e one rest others = absurd cc
dropped_here streams taken false false q p qs ps us vs e one rest others = (one, others)

pub one_dropped : (streams : List Shape) (taken : ℕ) (name : List ℕ) (qs ps : List LiveQuery) → Pairs streams taken qs ps → Pairs streams taken (without name qs) (without name ps)
one_dropped streams taken name [] [] h = tt
one_dropped streams taken name [] (p ∷ ps) h = absurd h
one_dropped streams taken name (q ∷ qs) [] h = absurd h
one_dropped streams taken name (q ∷ qs) (p ∷ ps) h =
    dropped_here streams taken (bytes_eq q.name name) (bytes_eq p.name name) q p qs ps (without name qs) (without name ps)
    (ap (λ n. bytes_eq n name) (are_alike streams taken q p h.0).name) h.0 h.1 (one_dropped streams taken name qs ps h.1)

-- and after one was created
pub one_created : (streams : List Shape) (taken : ℕ) (n : LiveQuery) (qs ps : List LiveQuery) → Pairs streams taken qs ps → Pairs streams taken (qs ++ n ∷ []) (ps ++ n ∷ [])
one_created streams taken n [] [] h = (same refl, tt)
one_created streams taken n [] (p ∷ ps) h = absurd h
one_created streams taken n (q ∷ qs) [] h = absurd h
one_created streams taken n (q ∷ qs) (p ∷ ps) h = (h.0, one_created streams taken n qs ps h.1)
