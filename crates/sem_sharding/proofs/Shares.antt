-- How often the shards have a tuple among their answers: a sum over combinations and the shards that see them.
use Rattle.std.proofs.Common.{◌≡◌, ℕ, zero, suc, ◌+◌, ◌*◌, ◌<◌, ◌≤◌, List, [], ◌∷◌, map, filter, cond, Bool, true, false, ◌&&◌, ◌==◌, refl, sym, ap, ◌∙◌, arith, nat_eq, ℤ}
use Rattle.std.specs.List.{list_all}
use Rattle.sem_laws.proofs.Sums.{sums, sums_same, sums_times, sums_filter, nested, nested_same, nested_both, bit}
use Rattle.sem_laws.proofs.Tests.{nat_true}
use Rattle.sem_laws.proofs.Counts.{times, times-answers, gives}
use Rattle.sem_query.specs.Query.{QueryValue}
use Rattle.sem_query.specs.Meaning.{Arrival, rows, by_column, answers}
use Rattle.sem_sharding.specs.Shards.{rows_of}

-- the rows of a stream that a test lets pass
abbrev pub rows_that : (Arrival → Bool) → ℕ → List (List ℤ) → List (List ℤ)
rows_that p s vs = filter (λ v. p (record { stream = s; values = v })) vs

named : (r : Arrival) (s : ℕ) → (r.stream == s) ≡ true → r ≡ record { stream = s; values = r.values }
named r s e = let f : r.stream ≡ s = nat_true r.stream s e in λ i. record { stream = f i; values = r.values }

pub rows-share : (p : Arrival → Bool) (h : List Arrival) (s : ℕ) → rows (filter p h) s ≡ rows_that p s (rows h s)
rows-share p [] s = refl
rows-share p (r ∷ h) s = by (r.stream == s) (p r) refl refl (rows-share p h s)
  where
    in_stream : Arrival → Bool
    in_stream t = t.stream == s

    by : (a b : Bool) → (r.stream == s) ≡ a → p r ≡ b → rows (filter p h) s ≡ rows_that p s (rows h s)
        → map (λ t. t.values) (filter (λ t. t.stream == s) (cond b (r ∷ filter p h) (filter p h)))
        ≡ rows_that p s (map (λ t. t.values) (cond a (r ∷ filter (λ t. t.stream == s) h) (filter (λ t. t.stream == s) h)))
    by true true e f ih =
        let g : p (record { stream = s; values = r.values }) ≡ true = ap p (sym (named r s e)) ∙ f in
        ap (λ b. map (λ t. t.values) (cond b (r ∷ filter (λ t. t.stream == s) (filter p h)) (filter (λ t. t.stream == s) (filter p h)))) e
        ∙ ap (λ l. r.values ∷ l) ih
        ∙ ap (λ b. cond b (r.values ∷ rows_that p s (rows h s)) (rows_that p s (rows h s))) (sym g)
    by true false e f ih =
        let g : p (record { stream = s; values = r.values }) ≡ false = ap p (sym (named r s e)) ∙ f in
        ih ∙ ap (λ b. cond b (r.values ∷ rows_that p s (rows h s)) (rows_that p s (rows h s))) (sym g)
    by false true e f ih =
        ap (λ b. map (λ t. t.values) (cond b (r ∷ filter (λ t. t.stream == s) (filter p h)) (filter (λ t. t.stream == s) (filter p h)))) e ∙ ih
    by false false e f ih = ih

pub filter-all : {X : Type 0} (t : X → Bool) (xs : List X) → ((x : X) → t x ≡ true) → filter t xs ≡ xs
filter-all t [] h = refl
filter-all t (x ∷ xs) h = ap (λ b. cond b (x ∷ filter t xs) (filter t xs)) (h x) ∙ ap (λ l. x ∷ l) (filter-all t xs h)

nested-times : {X : Type 0} (ls : List (List X)) (k : ℕ) (f : List X → ℕ) → nested ls (λ c. k * f c) ≡ k * nested ls f
unfolding nested
nested-times [] k f = refl
nested-times (l ∷ ls) k f =
    sums_same _ _ l (λ x. nested-times ls k (λ c. f (x ∷ c))) ∙ sums_times k (λ x. nested ls (λ c. f (x ∷ c))) l

-- combinations of the rows that pass are the combinations of which all rows pass
pub nested-share : (p : Arrival → Bool) (h : List Arrival) (from : List ℕ) (f : List (List ℤ) → ℕ)
    → nested (map (rows (filter p h)) from) f ≡ nested (map (rows h) from) (λ c. bit (list_all p (rows_of from c)) * f c)
unfolding nested
nested-share p h [] f = omega arith
nested-share p h (s ∷ from) f =
    ap (sums (λ x. nested (map (rows (filter p h)) from) (λ c. f (x ∷ c)))) (rows-share p h s)
    ∙ sym (sums_filter (λ x. p (record { stream = s; values = x })) (λ x. nested (map (rows (filter p h)) from) (λ c. f (x ∷ c))) (rows h s))
    ∙ sums_same _ _ (rows h s) (λ x.
    ap (λ n. bit (p (record { stream = s; values = x })) * n) (nested-share p h from (λ c. f (x ∷ c)))
    ∙ sym (nested-times (map (rows h) from) (bit (p (record { stream = s; values = x }))) (λ c. bit (list_all p (rows_of from c)) * f (x ∷ c)))
    ∙ nested_same (map (rows h) from) _ _ (λ c e. regroup (p (record { stream = s; values = x })) (list_all p (rows_of from c)) (f (x ∷ c))))
  where
    regroup : (a b : Bool) (n : ℕ) → bit a * (bit b * n) ≡ bit (a && b) * n
    regroup true b n = omega arith
    regroup false b n = omega arith

-- a sum over the shards
unfoldable pub over : ℕ → (ℕ → ℕ) → ℕ
over zero f = 0
over (suc k) f = over k f + f k

nested-nothing : {X : Type 0} (ls : List (List X)) → nested ls (λ c. 0) ≡ 0
nested-nothing ls = nested_same ls (λ c. 0) (λ c. 0 * 0) (λ c e. omega arith) ∙ nested-times ls 0 (λ c. 0) ∙ omega arith

-- exchanged with the sum over combinations
pub over-nested : {X : Type 0} (ls : List (List X)) (k : ℕ) (f : ℕ → List X → ℕ)
    → over k (λ i. nested ls (f i)) ≡ nested ls (λ c. over k (λ i. f i c))
unfolding over
over-nested ls zero f = sym (nested-nothing ls)
over-nested ls (suc k) f =
    ap (λ n. n + nested ls (f k)) (over-nested ls k f) ∙ sym (nested_both ls (λ c. over k (λ i. f i c)) (f k))

pub over-same : (k : ℕ) (f g : ℕ → ℕ) → ((i : ℕ) → i < k → f i ≡ g i) → over k f ≡ over k g
unfolding over
over-same zero f g h = refl
over-same (suc k) f g h = omega (arith, over-same k f g (λ i l. h i (omega (arith, l))), h k (omega arith))

pub over-none : (k : ℕ) (f : ℕ → ℕ) → ((i : ℕ) → i < k → f i ≡ 0) → over k f ≡ 0
unfolding over
over-none zero f h = refl
over-none (suc k) f h = omega (arith, over-none k f (λ i l. h i (omega (arith, l))), h k (omega arith))

-- one shard has all
pub over-one : (k : ℕ) (f : ℕ → ℕ) (i : ℕ) → i < k → ((j : ℕ) → j < k → (j ≡ i → ⊥) → f j ≡ 0) → over k f ≡ f i
unfolding over
over-one zero f i l h = absurd (omega (arith, l))
over-one (suc k) f i l h =
    by (nat_eq k i) refl (λ e. over-none k f (λ j m. h j (omega (arith, m)) (λ g. absurd (omega (arith, g, e, m)))))
    (λ m. over-one k f i m (λ j n o. h j (omega (arith, n)) o))
  where
    by : (b : Bool) → nat_eq k i ≡ b → (k ≡ i → over k f ≡ 0) → (i < k → over k f ≡ f i) → over k f + f k ≡ f i
    by true e none rest = let same : k ≡ i = nat_true k i e in omega (arith, ap f same, none same)
    by false e none rest =
        let other : k ≡ i → ⊥ = λ g. absurd (grind (arith, e, g)) in
        let below : i < k = grind (arith, e, l) in
        omega (arith, h k (omega arith) other, rest below)

-- of a sum
pub over-some : (k : ℕ) (f : ℕ → ℕ) → 0 < over k f → (i : ℕ) × (i < k) × (0 < f i)
unfolding over
over-some zero f h = absurd (omega (arith, h))
over-some (suc k) f h = by (f k) refl (over-some k f)
  where
    by : (n : ℕ) → f k ≡ n → (0 < over k f → (i : ℕ) × (i < k) × (0 < f i)) → (i : ℕ) × (i < suc k) × (0 < f i)
    by zero e rest = let r = rest (omega (arith, h, e)) in (r.0, omega (arith, r.1), r.2)
    by (suc n) e rest = (k, omega arith, omega (arith, e))

pub over-least : (k : ℕ) (f : ℕ → ℕ) (i : ℕ) → i < k → f i ≤ over k f
unfolding over
over-least zero f i l = absurd (omega (arith, l))
over-least (suc k) f i l = step (nat_eq i k) refl (λ m. over-least k f i m)
  where
    step : (b : Bool) → nat_eq i k ≡ b → (i < k → f i ≤ over k f) → f i ≤ over k f + f k
    step true e rest = let g : i ≡ k = nat_true i k e in omega (arith, ap f g)
    step false e rest = let m : i < k = grind (arith, e, l) in omega (arith, rest m)

pub over-two : (k : ℕ) (f : ℕ → ℕ) (i j : ℕ) → i < k → j < k → over k f ≤ 1 → 0 < f i → 0 < f j → i ≡ j
unfolding over
over-two zero f i j l m h a b = absurd (omega (arith, l))
over-two (suc k) f i j l m h a b = by (nat_eq i k) (nat_eq j k) refl refl (λ l m. over-two k f i j l m (omega (arith, h)) a b)
  where
    by : (x y : Bool) → nat_eq i k ≡ x → nat_eq j k ≡ y → (i < k → j < k → i ≡ j) → i ≡ j
    by true true e g rest = nat_true i k e ∙ sym (nat_true j k g)
    by true false e g rest =
        let n : j < k = grind (arith, g, m) in
        let s : f i ≡ f k = ap f (nat_true i k e) in
        absurd (omega (arith, h, a, b, s, over-least k f j n))
    by false true e g rest =
        let n : i < k = grind (arith, e, l) in
        let s : f j ≡ f k = ap f (nat_true j k g) in
        absurd (omega (arith, h, a, b, s, over-least k f i n))
    by false false e g rest = let n : i < k = grind (arith, e, l) in let o : j < k = grind (arith, g, m) in rest n o

-- a tuple's count in one share
pub times-share : (q : QueryValue) (z : List ℤ) (p : Arrival → Bool) (h : List Arrival)
    → times z (answers q (filter p h))
    ≡ nested (map (rows h) q.from) (λ c. bit (list_all p (rows_of q.from c)) * gives q z (map by_column c))
times-share q z p h = times-answers q z (filter p h) ∙ nested-share p h q.from (λ c. gives q z (map by_column c))
