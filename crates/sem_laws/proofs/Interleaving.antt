-- Over a whole history the answers are those of the nested product, whatever the order between streams; their counts fit.
use Rattle.std.proofs.Common.{◌≡◌, ℕ, zero, suc, ◌+◌, ◌-◌, ◌*◌, ◌^◌, min, ◌<◌, ◌≤◌, inl, inr, List, [], ◌∷◌, ◌++◌, map, filter, length, cond, not, Bool, true, false, ◌==◌, refl, sym, ap, ◌∙◌, subst, arith, ℤ}
use Rattle.std.specs.Prelude.{IsPermutation}
use Rattle.std.specs.List.{list_any, sum_by}
use Rattle.std.proofs.lemmas.List.Sorted.{sum_by-IsPermutation}
use Rattle.std.proofs.lemmas.List.Sums.{sum_by-cons}
use Rattle.std.proofs.lemmas.List.{length-map}
use Rattle.sem_laws.proofs.Sums.{sums, sums_same, sums_bits, nested, bit}
use Rattle.sem_laws.proofs.Tests.{true_or_false}
use Rattle.sem_laws.proofs.Counts.{times, times-answers, gives, arrived, Once, here, there, nested-more, nested-outside, arrived-others}
use Rattle.sem_laws.proofs.Order.{any-times}
use Rattle.sem_laws.proofs.NewAnswers.{outside, none-times, times-new-plain, times-new-distinct}
use Rattle.sem_laws.proofs.Merge.{counts-stay}
use Rattle.sem_laws.proofs.ServedLaw.{once_in}
use Rattle.sem_query.specs.Query.{QueryValue}
use Rattle.sem_query.specs.Meaning.{Arrival, rows, by_column, joined, answers, new_answers}
use Rattle.sem_query.specs.Assignment.{holds, projected}
use Rattle.sem_query.specs.Tuples.{is_same}
use Rattle.sem_laws.proofs.Merge.{times-printed-is}
use Rattle.sem_query.specs.Cells.{printed}
use Rattle.sem_laws.proofs.Queries.{IsQuery, query_within}
use Rattle.sem_laws.specs.Growth.{occurs, answered, AnyInterleaving}
use Rattle.sem_query.specs.Reordering.{Reorders}
use Rattle.sem_laws.specs.Rooms.{CountsFit}

pub occurs-is : (t : List ℤ) (us : List (List ℤ)) → occurs t us ≡ times t us
occurs-is t us = sym (sums_bits (is_same t) us)

pub appended : (h : List Arrival) (r : Arrival) (l : List Arrival) → (h ++ r ∷ []) ++ l ≡ h ++ r ∷ l
appended [] r l = refl
appended (x ∷ h) r l = ap (λ k. x ∷ k) (appended h r l)

pub ended : (h : List Arrival) → h ++ [] ≡ h
ended [] = refl
ended (x ∷ h) = ap (λ k. x ∷ k) (ended h)

-- one row
step_plain : (q : QueryValue) → IsQuery q → q.distinct ≡ false → (h : List Arrival) (r : Arrival) (t : List ℤ)
    → times t (answers q (h ++ r ∷ [])) ≡ times t (answers q h) + occurs t (new_answers q h r)
step_plain q well e h r t = omega (arith, occurs-is t (new_answers q h r), times-new-plain q h r t e, counts-stay q well h r t)

step_distinct : (q : QueryValue) → IsQuery q → q.distinct ≡ true → (h : List Arrival) (r : Arrival) (t : List ℤ)
    → min 1 (times t (answers q (h ++ r ∷ []))) ≡ min 1 (times t (answers q h)) + occurs t (new_answers q h r)
step_distinct q well e h r t = by (list_any (is_same t) (answers q h)) refl
  where
    by : (b : Bool) → list_any (is_same t) (answers q h) ≡ b
        → min 1 (times t (answers q (h ++ r ∷ []))) ≡ min 1 (times t (answers q h)) + occurs t (new_answers q h r)
    by true f =
        let n : times t (new_answers q h r) ≡ 0 * min 1 (times t (answers q (h ++ r ∷ [])))
        = times-new-distinct q h r t e ∙ ap (λ b. bit (not b) * min 1 (times t (answers q (h ++ r ∷ [])))) f in
        omega (arith, n, occurs-is t (new_answers q h r), counts-stay q well h r t, any-times t (answers q h) f)
    by false f =
        let n : times t (new_answers q h r) ≡ 1 * min 1 (times t (answers q (h ++ r ∷ [])))
        = times-new-distinct q h r t e ∙ ap (λ b. bit (not b) * min 1 (times t (answers q (h ++ r ∷ [])))) f in
        omega (arith, n, occurs-is t (new_answers q h r), none-times t (answers q h) f)

pub along_plain : (q : QueryValue) → IsQuery q → q.distinct ≡ false → (h later : List Arrival) (t : List ℤ)
    → times t (answers q (h ++ later)) ≡ times t (answers q h) + answered q t h later
along_plain q well e h [] t = ap (λ l. times t (answers q l)) (ended h) ∙ omega arith
along_plain q well e h (r ∷ later) t =
    ap (λ l. times t (answers q l)) (sym (appended h r later)) ∙ along_plain q well e (h ++ r ∷ []) later t
    ∙ omega (arith, step_plain q well e h r t)

pub along_distinct : (q : QueryValue) → IsQuery q → q.distinct ≡ true → (h later : List Arrival) (t : List ℤ)
    → min 1 (times t (answers q (h ++ later))) ≡ min 1 (times t (answers q h)) + answered q t h later
along_distinct q well e h [] t = ap (λ l. min 1 (times t (answers q l))) (ended h) ∙ omega arith
along_distinct q well e h (r ∷ later) t =
    ap (λ l. min 1 (times t (answers q l))) (sym (appended h r later)) ∙ along_distinct q well e (h ++ r ∷ []) later t
    ∙ omega (arith, step_distinct q well e h r t)

no_rows : (from : List ℕ) (f : List (List ℤ) → ℕ) → 0 < length from → nested (map (rows []) from) f ≡ 0
unfolding sums nested
no_rows [] f l = absurd (omega (arith, l))
no_rows (s ∷ from) f l = refl

nothing_first : (q : QueryValue) → IsQuery q → (t : List ℤ) → times t (answers q []) ≡ 0
nothing_first q well t = times-answers q t [] ∙ no_rows q.from (λ c. gives q t (map by_column c)) well.some

bag : (q : QueryValue) → IsQuery q → (h : List Arrival) (t : List ℤ)
    → answered q t [] h ≡ cond q.distinct (min 1 (occurs t (answers q h))) (occurs t (answers q h))
bag q well h t = by q.distinct refl
  where
    by : (b : Bool) → q.distinct ≡ b → answered q t [] h ≡ cond b (min 1 (occurs t (answers q h))) (occurs t (answers q h))
    by true e = omega (arith, along_distinct q well e [] h t, nothing_first q well t, occurs-is t (answers q h))
    by false e = omega (arith, along_plain q well e [] h t, nothing_first q well t, occurs-is t (answers q h))

-- reordered lists have equal sums
sums-by : {X : Type 0} (f : X → ℕ) (xs : List X) → sums f xs ≡ sum_by f xs
unfolding sums
sums-by f [] = refl
sums-by f (x ∷ xs) = ap (λ n. f x + n) (sums-by f xs) ∙ sym (sum_by-cons f x xs)

sums-reordered : {X : Type 0} (f : X → ℕ) (xs ys : List X) → IsPermutation xs ys → sums f xs ≡ sums f ys
sums-reordered f xs ys p = sums-by f xs ∙ sym (sum_by-IsPermutation f xs ys p) ∙ sym (sums-by f ys)

nested-reordered : (g h : List Arrival) → Reorders g h → (from : List ℕ) (f : List (List ℤ) → ℕ)
    → nested (map (rows g) from) f ≡ nested (map (rows h) from) f
unfolding nested
nested-reordered g h p [] f = refl
nested-reordered g h p (s ∷ from) f =
    sums_same _ (λ x. nested (map (rows h) from) (λ c. f (x ∷ c))) (rows g s) (λ x. nested-reordered g h p from (λ c. f (x ∷ c)))
    ∙ sums-reordered (λ x. nested (map (rows h) from) (λ c. f (x ∷ c))) (rows g s) (rows h s) (p s)

-- with DISTINCT the answers are those printed
bag-printed : (q : QueryValue) (h : List Arrival) (t : List ℤ)
    → cond q.distinct (min 1 (occurs t (answers q h))) (occurs t (answers q h)) ≡ occurs t (cond q.distinct (printed q h) (answers q h))
bag-printed q h t = elim (true_or_false q.distinct) [
  | inl e ↦ (
      ap (λ b. cond b (min 1 (occurs t (answers q h))) (occurs t (answers q h))) e
      ∙ ap (min 1) (occurs-is t (answers q h)) ∙ sym (times-printed-is q h t e) ∙ sym (occurs-is t (printed q h))
      ∙ sym (ap (λ b. occurs t (cond b (printed q h) (answers q h))) e))
  | inr e ↦ (
      ap (λ b. cond b (min 1 (occurs t (answers q h))) (occurs t (answers q h))) e
      ∙ sym (ap (λ b. occurs t (cond b (printed q h) (answers q h))) e))
]

pub any-interleaving : AnyInterleaving
any-interleaving q within = (
  λ h t. bag q (query_within q within) h t ∙ bag-printed q h t,
  λ g h p t. bag q (query_within q within) g t ∙ ap (λ n. cond q.distinct (min 1 n) n) (same g h p t)
      ∙ sym (bag q (query_within q within) h t),
)
  where
    same : (g h : List Arrival) → Reorders g h → (t : List ℤ) → occurs t (answers q g) ≡ occurs t (answers q h)
    same g h p t =
        occurs-is t (answers q g) ∙ times-answers q t g ∙ nested-reordered g h p q.from (λ c. gives q t (map by_column c))
        ∙ sym (times-answers q t h) ∙ sym (occurs-is t (answers q h))

-- how many combinations there are
power : ℕ → ℕ → ℕ
power n zero = 1
power n (suc k) = n * power n k

grown : (a b c d : ℕ) → a ≤ b → c ≤ d → a * c ≤ b * d
grown a b c d h k = grind (arith, h, k)

sums-most : {X : Type 0} (f : X → ℕ) (m : ℕ) (xs : List X) → ((x : X) → f x ≤ m) → sums f xs ≤ length xs * m
unfolding sums
sums-most f m [] h = omega arith
sums-most f m (x ∷ xs) h = omega (arith, h x, sums-most f m xs h)

filter-shorter : {X : Type 0} (t : X → Bool) (xs : List X) → length (filter t xs) ≤ length xs
filter-shorter t [] = omega arith
filter-shorter {X} t (x ∷ xs) = by (t x) (filter-shorter t xs)
  where
    by : (b : Bool) → length (filter t xs) ≤ length xs → length (cond b (x ∷ filter t xs) (filter t xs)) ≤ suc (length xs)
    by true h = omega (arith, h)
    by false h = omega (arith, h)

rows-fewer : (h : List Arrival) (s : ℕ) → length (rows h s) ≤ length h
rows-fewer h s = omega (arith, length-map (filter (λ r. r.stream == s) h) (λ r. r.values), filter-shorter (λ r. r.stream == s) h)

nested-most : (h : List Arrival) (n : ℕ) → length h ≤ n → (from : List ℕ) (f : List (List ℤ) → ℕ) → ((c : List (List ℤ)) → f c ≤ 1)
    → nested (map (rows h) from) f ≤ power n (length from)
unfolding nested power
nested-most h n l [] f k = k []
nested-most h n l (s ∷ from) f k =
    let a
    = sums-most (λ x. nested (map (rows h) from) (λ c. f (x ∷ c))) (power n (length from)) (rows h s) (λ x. nested-most h n l from (λ c. f (x ∷ c)) (λ c. k (x ∷ c))) in
    let b
    = grown (length (rows h s)) n (power n (length from)) (power n (length from)) (omega (arith, l, rows-fewer h s)) (omega arith) in
    omega (arith, a, b)

arrived-most : (h : List Arrival) (r : Arrival) (n : ℕ) → length h ≤ n → (from : List ℕ) (f : List (List ℤ) → ℕ)
    → ((c : List (List ℤ)) → f c ≤ 1) → Once r.stream from → nested (map (arrived h r) from) f ≤ power n (length from - 1)
unfolding nested power sums
arrived-most h r n l [] f k o = elim o [ ]
arrived-most h r n l (s ∷ from) f k (here e a) =
    let one : arrived h r s ≡ r.values ∷ [] = ap (λ b. cond b (r.values ∷ []) (rows h s)) e in
    let b : nested (map (arrived h r) from) (λ c. f (r.values ∷ c)) ≤ power n (length from) =
    subst (λ ls. nested ls (λ c. f (r.values ∷ c)) ≤ power n (length from)) (sym (arrived-others h r from a)) (nested-most h n l from (λ c. f (r.values ∷ c)) (λ c. k (r.values ∷ c))) in
    let g : sums (λ x. nested (map (arrived h r) from) (λ c. f (x ∷ c))) (arrived h r s) ≡ nested (map (arrived h r) from) (λ c. f (r.values ∷ c)) + 0
    = ap (sums (λ x. nested (map (arrived h r) from) (λ c. f (x ∷ c)))) one in
    let j : suc (length from) - 1 ≡ length from = omega arith in
    subst (λ m. sums (λ x. nested (map (arrived h r) from) (λ c. f (x ∷ c))) (arrived h r s) ≤ power n m) (sym j) (omega (arith, b, g))
arrived-most h r n l (s ∷ []) f k (there e o) = elim o [ ]
arrived-most h r n l (s ∷ t ∷ from) f k (there e o) =
    let same : arrived h r s ≡ rows h s = ap (λ b. cond b (r.values ∷ []) (rows h s)) e in
    let p : ℕ = power n (length from) in
    let m : suc (length from) - 1 ≡ length from = omega arith in
    let j : suc (suc (length from)) - 1 ≡ suc (length from) = omega arith in
    let a = sums-most (λ x. nested (map (arrived h r) (t ∷ from)) (λ c. f (x ∷ c))) p (arrived h r s)
    (λ x. subst (λ i. nested (map (arrived h r) (t ∷ from)) (λ c. f (x ∷ c)) ≤ power n i) m (arrived-most h r n l (t ∷ from) (λ c. f (x ∷ c)) (λ c. k (x ∷ c)) o)) in
    let b
    = grown (length (arrived h r s)) n p p (subst (λ xs. length xs ≤ n) (sym same) (omega (arith, l, rows-fewer h s))) (omega arith) in
    subst (λ i. sums (λ x. nested (map (arrived h r) (t ∷ from)) (λ c. f (x ∷ c))) (arrived h r s) ≤ power n i) (sym j) (omega (arith, a, b))

small_power : (k : ℕ) → k ≤ 3 → power (2 ^ 40) k ≤ 2 ^ 120
unfolding power
small_power zero h = omega arith
small_power (suc zero) h = omega arith
small_power (suc (suc zero)) h = omega arith
small_power (suc (suc (suc zero))) h = omega arith
small_power (suc (suc (suc (suc k)))) h = absurd (omega (arith, h))

pub counts-fit : CountsFit
counts-fit q within h r t few = by (list_any (λ s. r.stream == s) q.from) refl
  where
    well : IsQuery q
    well = query_within q within

    most : (c : List (List ℤ)) → gives q t (map by_column c) ≤ 1
    most c = bits (holds q (joined (map by_column c))) (is_same t (projected q (joined (map by_column c))))
      where
        bits : (a b : Bool) → bit a * bit b ≤ 1
        bits true true = omega arith
        bits true false = omega arith
        bits false b = omega arith

    grows : (m : ℕ) → times t (answers q (h ++ r ∷ [])) ≡ times t (answers q h) + m → m ≤ 2 ^ 120
        → occurs t (new_answers q h r) ≤ 2 ^ 120
    grows m g l = elim (true_or_false q.distinct) [
      | inl e ↦ omega (arith, step_distinct q well e h r t)
      | inr e ↦ omega (arith, step_plain q well e h r t, g, l)
    ]

    by : (b : Bool) → list_any (λ s. r.stream == s) q.from ≡ b → occurs t (new_answers q h r) ≤ 2 ^ 120
    by true e =
        let o : Once r.stream q.from = once_in r.stream q.from well.once e in
        let a = arrived-most h r (2 ^ 40) few q.from (λ c. gives q t (map by_column c)) most o in
        let b = small_power (length q.from - 1) (omega (arith, within.streams.1)) in
        grows (nested (map (arrived h r) q.from) (λ c. gives q t (map by_column c)))
        (times-answers q t (h ++ r ∷ []) ∙ nested-more h r q.from (λ c. gives q t (map by_column c)) o ∙ ap (λ n. n + nested (map (arrived h r) q.from) (λ c. gives q t (map by_column c))) (sym (times-answers q t h)))
        (omega (arith, a, b))
    by false e =
        grows 0 (times-answers q t (h ++ r ∷ []) ∙ nested-outside h r q.from (λ c. gives q t (map by_column c)) (outside r.stream q.from e) ∙ sym (times-answers q t h) ∙ omega arith) (omega arith)
