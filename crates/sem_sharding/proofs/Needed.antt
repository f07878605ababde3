-- The converses: the rows of one combination, or of two of one tuple, show where a routing is wrong.
use Rattle.std.proofs.Common.{◌≡◌, ◌≢◌, ℕ, suc, ◌+◌, ◌*◌, min, ◌<◌, ◌≤◌, inl, inr, List, [], ◌∷◌, ◌++◌, map, filter, length, cond, not, Bool, true, false, ◌||◌, ◌==◌, refl, sym, ap, ◌∙◌, subst, arith, nat_eq, ℤ, slice_index_or, AllPairs, Contains}
use Rattle.std.specs.List.{list_all}
use Rattle.std.specs.Ordering.{int_eq}
use Rattle.std.specs.declared.option.Option.{Option}
use Rattle.std.specs.declared.option.Option.TheVariants.{None, Some}
use Rattle.std.proofs.lemmas.Bool.Decides.{Decides-int_eq}
use Rattle.sem_query.proofs.Has.{Has, first, later, Contains-from_has, Has-append_left, Has-append_right, Has-append_cases, Has-filter, Has-map, Has-flat_map}
use Rattle.sem_query.proofs.Domains.{keeps_each}
use Rattle.sem_laws.proofs.Sums.{sums, nested, bit}
use Rattle.sem_laws.proofs.Tests.{all_if, or-left, or-right, false_if, nat_true, not_both}
use Rattle.sem_laws.proofs.Counts.{times, times-answers, gives}
use Rattle.sem_laws.proofs.Order.{times-ascending, same-itself}
use Rattle.sem_laws.proofs.Queries.{IsQuery, query_within}
use Rattle.sem_laws.proofs.Keeping.{rows-keep, row-keeps}
use Rattle.sem_laws.proofs.Interleaving.{appended, ended}
use Rattle.sem_query.specs.declared.atom.Attr.{Attr}
use Rattle.sem_query.specs.declared.atom.Domain.{Domain}
use Rattle.sem_query.specs.Query.{QueryValue, IsWithinLimits}
use Rattle.sem_query.specs.Assignment.{projected, lies_in}
use Rattle.sem_query.specs.Meaning.{Arrival, rows, product, by_column, at_place, assignment_of, answers, new_answers}
use Rattle.sem_query.specs.Domains.{keeps_at, RowKeeps, RowsKeep}
use Rattle.sem_query.specs.Tuples.{is_same}
use Rattle.sem_sharding.specs.Shards.{Routing, share, shards_answer, rows_of, Counts, Sees, IsSplit, IsDisjoint, AnswerTogether}
use Rattle.sem_sharding.specs.Keys.{Keys, goes_by, by_key, IsKey, keys_from}
use Rattle.sem_sharding.specs.Needed.{SplitIsNeeded, DisjointIsNeeded, EqualKeysAreNeeded, ToldKeysAreNeeded}
use Rattle.sem_sharding.proofs.Shares.{over, over-same, over-none, over-some, over-two, times-share}
use Rattle.sem_sharding.proofs.Together.{counted, AddsUp, answered-is, shards-step, shards-grow, whole-step}
use Rattle.sem_sharding.proofs.Parted.{Giving, share-has}
use Rattle.sem_sharding.proofs.Spelled.{rows_for, same-value, spelled-counts, spelled-tuple}
use Rattle.sem_sharding.proofs.ByKeys.{StandsAt, stands, same-place, shard-is, key-listed, listed-key}

-- what shards answer together, they have together
module _ (q : QueryValue) (within : IsWithinLimits q) (k : ℕ) (to : Routing) (together : AnswerTogether q k to) where
  well : IsQuery q
  well = query_within q within

  abbrev Agree : List Arrival → List ℤ → Type 0
  Agree h z = over k (λ i. counted q (times z (answers q (share to i h)))) ≡ counted q (times z (answers q h))

  at_first : (z : List ℤ) → Agree [] z
  at_first z =
      let e : counted q (times z (answers q [])) ≡ 0 = sym (answered-is q within [] z) in
      over-none k _ (λ i l. e) ∙ sym e

  one_more : (h : List Arrival) (r : Arrival) → RowsKeep q h → RowKeeps q r → (z : List ℤ) → Agree h z → Agree (h ++ r ∷ []) z
  one_more h r keep keep_r z a =
      let e : times z (shards_answer q to k h r) ≡ times z (new_answers q h r)
      = sym (times-ascending z (shards_answer q to k h r)) ∙ ap (times z) (together h r keep keep_r) in
      omega (arith, e, a, shards-step q well to k h r z, shards-grow q well to k h r z, whole-step q well h r z)

  along : (h rest : List Arrival) → ((r : Arrival) → Has (h ++ rest) r → RowKeeps q r) → (z : List ℤ) → Agree h z → Agree (h ++ rest) z
  along h [] keep z a = subst (λ l. Agree l z) (sym (ended h)) a
  along h (r ∷ rest) keep z a =
      subst (λ l. Agree l z) (appended h r rest)
      (along (h ++ r ∷ []) rest (λ x i. keep x (subst (λ l. Has l x) (appended h r rest) i)) z
      (one_more h r (rows-keep q h (λ x i. keep x (Has-append_left (r ∷ rest) i))) (keep r (Has-append_right h first)) z a))

  pub adds-up : AddsUp q k to
  adds-up h keep z = along [] h (λ r i. row-keeps q h keep r i) z (at_first z)

-- a stream that FROM does not name again
differs : (s : ℕ) (from : List ℕ) → AllPairs (λ x y. x ≢ y) (s ∷ from) → (t : ℕ) → Has from t → (s == t) ≡ false
differs s from d t k =
    let c : Contains from t = Contains-from_has from t k in
    let n : s ≢ slice_index_or from c.0 t = d 0 (suc c.0) t (omega arith) (omega (arith, c.1)) in
    false_if (s == t) (λ e. n (nat_true s t e ∙ sym c.2))

fewer : (s : ℕ) (from : List ℕ) → AllPairs (λ x y. x ≢ y) (s ∷ from) → AllPairs (λ x y. x ≢ y) from
fewer s from d = λ i j e a b. d (suc i) (suc j) e (omega (arith, a)) (omega (arith, b))

-- the rows of one combination, stream by stream
no_rows : (s : ℕ) (from : List ℕ) (c : List (List ℤ)) → ((t : ℕ) → Has from t → (s == t) ≡ false) → rows (rows_of from c) s ≡ []
no_rows s [] c a = refl
no_rows s (t ∷ from) [] a = refl
no_rows s (t ∷ from) (x ∷ c) a =
    let e : (t == s) ≡ false = false_if (t == s) (λ f. not_both (s == t) (let g : t ≡ s = nat_true t s f in grind (arith, g)) (a t first)) in
    ap (λ b. map (λ (r : Arrival). r.values) (cond b (record { stream = t; values = x } ∷ filter (λ r. r.stream == s) (rows_of from c)) (filter (λ r. r.stream == s) (rows_of from c)))) e
    ∙ no_rows s from c (λ u i. a u (later i))

one_row : (s : ℕ) (x : List ℤ) (h : List Arrival) → rows h s ≡ [] → rows (record { stream = s; values = x } ∷ h) s ≡ x ∷ []
one_row s x h e =
    let f : (s == s) ≡ true = grind arith in
    ap (λ b. map (λ (r : Arrival). r.values) (cond b (record { stream = s; values = x } ∷ filter (λ r. r.stream == s) h) (filter (λ r. r.stream == s) h))) f
    ∙ ap (λ l. x ∷ l) e

other_rows : (s : ℕ) (x : List ℤ) (h : List Arrival) (from : List ℕ) → ((t : ℕ) → Has from t → (s == t) ≡ false)
    → map (rows (record { stream = s; values = x } ∷ h)) from ≡ map (rows h) from
other_rows s x h [] a = refl
other_rows s x h (t ∷ from) a =
    let e : rows (record { stream = s; values = x } ∷ h) t ≡ rows h t
    = ap (λ b. map (λ (r : Arrival). r.values) (cond b (record { stream = s; values = x } ∷ filter (λ r. r.stream == t) h) (filter (λ r. r.stream == t) h))) (a t first) in
    let m : map (rows (record { stream = s; values = x } ∷ h)) from ≡ map (rows h) from = other_rows s x h from (λ u i. a u (later i)) in
    cc

alone_rows : (from : List ℕ) → AllPairs (λ x y. x ≢ y) from → (c : List (List ℤ)) → length c ≡ length from
    → map (rows (rows_of from c)) from ≡ map (λ x. x ∷ []) c
alone_rows [] d [] e = refl
alone_rows [] d (x ∷ c) e = absurd (omega (arith, e))
alone_rows (s ∷ from) d [] e = absurd (omega (arith, e))
alone_rows (s ∷ from) d (x ∷ c) e =
    let a : rows (rows_of (s ∷ from) (x ∷ c)) s ≡ x ∷ [] = one_row s x (rows_of from c) (no_rows s from c (differs s from d)) in
    let b : map (rows (rows_of (s ∷ from) (x ∷ c))) from ≡ map (λ x. x ∷ []) c
    = other_rows s x (rows_of from c) from (differs s from d) ∙ alone_rows from (fewer s from d) c (omega (arith, e)) in
    cc

nested_alone : (c : List (List ℤ)) (f : List (List ℤ) → ℕ) → nested (map (λ x. x ∷ []) c) f ≡ f c
unfolding nested sums
nested_alone [] f = refl
nested_alone (x ∷ c) f = omega (arith, nested_alone c (λ o. f (x ∷ o)))

-- they keep to the domains
combination-rows-keep : (q : QueryValue) → IsQuery q → (c : List (List ℤ)) → Counts q c → (r : Arrival) → Has (rows_of q.from c) r → RowKeeps q r
combination-rows-keep q well c m r i place l e = at_row (stands q.from c r i)
  where
    at_row : StandsAt q.from c r → keeps_at q place (by_column r.values) ≡ true
    at_row t = all_if (λ (d : Domain). not (nat_eq d.attr.stream place) || lies_in d (by_column r.values d.attr.column)) q.domains (λ d k. one d k (nat_eq d.attr.stream place) refl)
      where
        one : (d : Domain) → Has q.domains d → (b : Bool) → nat_eq d.attr.stream place ≡ b
            → (not (nat_eq d.attr.stream place) || lies_in d (by_column r.values d.attr.column)) ≡ true
        one d k false f = or-left _ _ (ap not f)
        one d k true f =
            let p : d.attr.stream ≡ t.n
            = nat_true d.attr.stream place f ∙ same-place q.from well.once place t.n l t.at (e ∙ t.stream) in
            let v : lies_in d (at_place (map by_column c) d.attr.stream d.attr.column) ≡ true = keeps_each q (assignment_of c) m.keeps d k in
            or-right (not (nat_eq d.attr.stream place)) _
            (subst (λ (w : ℕ → ℤ). lies_in d (w d.attr.column) ≡ true) (ap (at_place (map by_column c)) p ∙ t.values) v)

module _ (q : QueryValue) (well : IsQuery q) (c : List (List ℤ)) (m : Counts q c) where
  abbrev tuple : List ℤ
  tuple = projected q (assignment_of c)

  gives_own : gives q tuple (map by_column c) ≡ 1
  gives_own =
      ap (λ b. bit b * bit (is_same tuple tuple)) m.holds
      ∙ ap (λ b. bit true * bit b) (same-itself tuple) ∙ omega arith

  pub own-times : times tuple (answers q (rows_of q.from c)) ≡ 1
  own-times =
      times-answers q tuple (rows_of q.from c)
      ∙ ap (λ ls. nested ls (λ c. gives q tuple (map by_column c))) (alone_rows q.from well.once c m.whole)
      ∙ nested_alone c (λ c. gives q tuple (map by_column c)) ∙ gives_own

  pub own-share : (p : Arrival → Bool) → times tuple (answers q (filter p (rows_of q.from c))) ≡ bit (list_all p (rows_of q.from c))
  own-share p =
      times-share q tuple p (rows_of q.from c)
      ∙ ap (λ ls. nested ls (λ c. bit (list_all p (rows_of q.from c)) * gives q tuple (map by_column c))) (alone_rows q.from well.once c m.whole)
      ∙ nested_alone c (λ c. bit (list_all p (rows_of q.from c)) * gives q tuple (map by_column c))
      ∙ ap (λ n. bit (list_all p (rows_of q.from c)) * n) gives_own ∙ omega arith

  pub own-keep : RowsKeep q (rows_of q.from c)
  own-keep = rows-keep q (rows_of q.from c) (combination-rows-keep q well c m)

bit-yes : (b : Bool) → 0 < bit b → b ≡ true
bit-yes true h = refl
bit-yes false h = absurd (omega (arith, h))

yes-bit : (b : Bool) → b ≡ true → 0 < bit b
yes-bit true h = omega arith
yes-bit false h = absurd cc

pub split-is-needed : SplitIsNeeded
split-is-needed q k to within e together = record {
  some = λ c m. (let s = over-some k (λ i. bit (list_all (to i) (rows_of q.from c))) (omega (arith, total c m)) in
      (s.0, s.1, bit-yes _ s.2));
  one = λ c m i j li lj si sj. over-two k (λ i. bit (list_all (to i) (rows_of q.from c))) i j li lj (omega (arith, total c m)) (yes-bit _ si) (yes-bit _ sj);
}
  where
    well : IsQuery q
    well = query_within q within

    total : (c : List (List ℤ)) (m : Counts q c) → over k (λ i. bit (list_all (to i) (rows_of q.from c))) ≡ 1
    total c m =
        let z : List ℤ = projected q (assignment_of c) in
        over-same k _ _ (λ i l. sym (own-share q well c m (to i)))
        ∙ ap (λ b. over k (λ i. cond b (min 1 (times z (answers q (share to i (rows_of q.from c))))) (times z (answers q (share to i (rows_of q.from c)))))) (sym e)
        ∙ adds-up q within k to together (rows_of q.from c) (own-keep q well c m) z
        ∙ ap (λ b. cond b (min 1 (times z (answers q (rows_of q.from c)))) (times z (answers q (rows_of q.from c)))) e
        ∙ own-times q well c m

-- a combination of rows of a history
among : (h : List Arrival) (from : List ℕ) (c : List (List ℤ)) → length c ≡ length from → ((r : Arrival) → Has (rows_of from c) r → Has h r)
    → Has (product (map (rows h) from)) c
among h [] [] e f = first
among h [] (x ∷ c) e f = absurd (omega (arith, e))
among h (s ∷ from) [] e f = absurd (omega (arith, e))
among h (s ∷ from) (x ∷ c) e f =
    let t : (s == s) ≡ true = grind arith in
    Has-flat_map (λ x. map (λ o. x ∷ o) (product (map (rows h) from))) (rows h s) x (x ∷ c)
    (Has-map (λ (r : Arrival). r.values) (Has-filter (λ (r : Arrival). r.stream == s) t (f (record { stream = s; values = x }) first)))
    (Has-map (λ o. x ∷ o) (among h from c (omega (arith, e)) (λ r i. f r (later i))))

pub disjoint-is-needed : DisjointIsNeeded
disjoint-is-needed q k to within e together = record {
  some = λ c m. (let s
      = over-some k (λ i. min 1 (bit (list_all (to i) (rows_of q.from c)))) (omega (arith, total c m)) in
      (s.0, s.1, bit-yes _ (omega (arith, s.2))));
  one = λ c d m n same i j li lj si sj.
      over-two k (λ i. min 1 (times (projected q (assignment_of c)) (answers q (share to i (rows_of q.from c ++ rows_of q.from d))))) i j li lj
      (omega (arith, few c d m n))
      (omega (
        arith,
        share-has q well (both c d) (both-keep c d m n) (λ o. list_all (to i) (rows_of q.from o)) (λ z. times z (answers q (share to i (both c d)))) (λ z. times-share q z (to i) (both c d)) (projected q (assignment_of c)) c
            (giving c d m n (projected q (assignment_of c)) c m (λ r h. Has-append_left (rows_of q.from d) h) refl) si,
      ))
      (omega (
        arith,
        share-has q well (both c d) (both-keep c d m n) (λ o. list_all (to j) (rows_of q.from o)) (λ z. times z (answers q (share to j (both c d)))) (λ z. times-share q z (to j) (both c d)) (projected q (assignment_of c)) d
            (giving c d m n (projected q (assignment_of c)) d n (λ r h. Has-append_right (rows_of q.from c) h) same) sj,
      ));
}
  where
    well : IsQuery q
    well = query_within q within

    adds : (h : List Arrival) → RowsKeep q h → (z : List ℤ)
        → over k (λ i. min 1 (times z (answers q (share to i h)))) ≡ min 1 (times z (answers q h))
    adds h keep z =
        ap (λ b. over k (λ i. cond b (min 1 (times z (answers q (share to i h)))) (times z (answers q (share to i h))))) (sym e)
        ∙ adds-up q within k to together h keep z
        ∙ ap (λ b. cond b (min 1 (times z (answers q h))) (times z (answers q h))) e

    total : (c : List (List ℤ)) (m : Counts q c) → over k (λ i. min 1 (bit (list_all (to i) (rows_of q.from c)))) ≡ 1
    total c m =
        over-same k _ _ (λ i l. ap (min 1) (sym (own-share q well c m (to i))))
        ∙ adds (rows_of q.from c) (own-keep q well c m) (projected q (assignment_of c))
        ∙ ap (min 1) (own-times q well c m) ∙ omega arith

    both : List (List ℤ) → List (List ℤ) → List Arrival
    both c d = rows_of q.from c ++ rows_of q.from d

    both-keep : (c d : List (List ℤ)) → Counts q c → Counts q d → RowsKeep q (both c d)
    both-keep c d m n = rows-keep q (both c d) (λ r h. elim (Has-append_cases (rows_of q.from c) (rows_of q.from d) r h) [
      | inl i ↦ combination-rows-keep q well c m r i
      | inr i ↦ combination-rows-keep q well d n r i
    ])

    few : (c d : List (List ℤ)) (m : Counts q c) (n : Counts q d)
        → over k (λ i. min 1 (times (projected q (assignment_of c)) (answers q (share to i (both c d))))) ≤ 1
    few c d m n = omega (arith, adds (both c d) (both-keep c d m n) (projected q (assignment_of c)))

    giving : (c d : List (List ℤ)) (m : Counts q c) (n : Counts q d) (z : List ℤ) (o : List (List ℤ)) → Counts q o
        → ((r : Arrival) → Has (rows_of q.from o) r → Has (both c d) r) → z ≡ projected q (assignment_of o)
        → Giving q well (both c d) (both-keep c d m n) z o
    giving c d m n z o p f s = record {
      there = among (both c d) q.from o p.whole f;
      counting = p;
      tuple = s;
      fits = subst (λ t. 0 < gives q t (map by_column o)) (sym s) (omega (arith, gives_own q well o p));
    }

-- two values that are put apart
abbrev apart : ℤ → ℤ → ℕ
apart x z = cond (int_eq z x) 0 1

apart-below : (x z : ℤ) → apart x z < 2
apart-below x z = by (int_eq z x)
  where
    by : (b : Bool) → cond b 0 1 < 2
    by true = omega arith
    by false = omega arith

told : (x y : ℤ) → apart x x ≡ apart x y → x ≡ y
told x y h = sym (by (int_eq y x) refl)
  where
    by : (b : Bool) → int_eq y x ≡ b → y ≡ x
    by true e = (Decides-int_eq y x).0 e
    by false e =
        let f : int_eq x x ≡ true = (Decides-int_eq x x).1 refl in
        absurd (omega (arith, h, ap {B = ℕ} (λ b. cond b 0 1) f, ap {B = ℕ} (λ b. cond b 0 1) e))

module _ (q : QueryValue) (keys : Keys) where
  -- in one combination
  equal-there : ((put : ℤ → ℕ) → ((z : ℤ) → put z < 2) → IsSplit q 2 (by_key keys put)) → (c : List (List ℤ)) → Counts q c
      → (a b : Attr) → IsKey q keys a → IsKey q keys b → assignment_of c a ≡ assignment_of c b
  equal-there split c m a b i j =
      let x : ℤ = assignment_of c a in
      let s = (split (apart x) (apart-below x)).some c m in
      told x (assignment_of c b) (shard-is q keys (apart x) c m a i s.0 s.2 ∙ sym (shard-is q keys (apart x) c m b j s.0 s.2))

  -- where no stream has a key, each shard sees it
  some-key : ((put : ℤ → ℕ) → ((z : ℤ) → put z < 2) → IsSplit q 2 (by_key keys put)) → (c : List (List ℤ)) → Counts q c → (a : Attr) × IsKey q keys a
  some-key split c m = by (keys_from keys 0 q.from) (λ a h. listed-key q keys a h) (λ a i. key-listed q keys a i)
    where
      by : (ks : List Attr) → ((a : Attr) → Has ks a → IsKey q keys a) → ((a : Attr) → IsKey q keys a → Has ks a) → (a : Attr) × IsKey q keys a
      by (a ∷ ks) to of = (a, to a first)
      by [] to of =
          let put : ℤ → ℕ = λ z. 0 in
          let are = split put (λ z. omega arith) in
          let e : 0 ≡ 1 = are.one c m 0 1 (omega arith) (omega arith) (all put 0) (all put 1) in
          absurd (omega (arith, e))
        where
          all : (put : ℤ → ℕ) (shard : ℕ) → Sees q (by_key keys put) shard c
          all put shard = all_if (by_key keys put shard) (rows_of q.from c) (λ r h. one r (stands q.from c r h) (keys r.stream) refl)
            where
              one : (r : Arrival) → StandsAt q.from c r → (o : Option ℕ) → keys r.stream ≡ o → goes_by o put shard r ≡ true
              one r t None e = refl
              one r t (Some column) e =
                  elim (of (record { stream = t.n; column = column }) (record { place = t.at; key = ap keys (sym t.stream) ∙ e })) [ ]

  -- in two of one tuple
  told-there : ((put : ℤ → ℕ) → ((z : ℤ) → put z < 2) → IsDisjoint q 2 (by_key keys put)) → (c d : List (List ℤ)) → Counts q c → Counts q d
      → projected q (assignment_of c) ≡ projected q (assignment_of d) → (a : Attr) → IsKey q keys a → assignment_of c a ≡ assignment_of d a
  told-there split c d m n same a i =
      let x : ℤ = assignment_of c a in
      let are = split (apart x) (apart-below x) in
      let s = are.some c m in
      let t = are.some d n in
      let e : s.0 ≡ t.0 = are.one c d m n same s.0 t.0 s.1 t.1 s.2 t.2 in
      told x (assignment_of d a) (shard-is q keys (apart x) c m a i s.0 s.2 ∙ e ∙ sym (shard-is q keys (apart x) d n a i t.0 t.2))

pub equal-keys-are-needed : EqualKeysAreNeeded
equal-keys-are-needed q keys within split v f = record {
  some = some-key q keys split (rows_for q within 0 v) (spelled-counts q within 0 v f);
  equal = λ a b i j w g.
      (let m : ℕ = suc (a.column + b.column) in
      sym (same-value q within m w a i.place (omega arith))
      ∙ equal-there q keys split (rows_for q within m w) (spelled-counts q within m w g) a b i j
      ∙ same-value q within m w b j.place (omega arith));
}

pub told-keys-are-needed : ToldKeysAreNeeded
told-keys-are-needed q keys within split a i v w f g same =
    let m : ℕ = suc a.column in
    sym (same-value q within m v a i.place (omega arith))
    ∙ told-there q keys split (rows_for q within m v) (rows_for q within m w) (spelled-counts q within m v f) (spelled-counts q within m w g)
    (spelled-tuple q within m v ∙ same ∙ sym (spelled-tuple q within m w)) a i
    ∙ same-value q within m w a i.place (omega arith)
