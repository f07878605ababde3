-- How often a tuple is among the answers, and what one more row adds: a sum over the parts.
use Rattle.std.proofs.Common.{◌≡◌, ℕ, suc, ◌+◌, ◌*◌, List, [], ◌∷◌, ◌++◌, map, filter, length, cond, Bool, true, false, ◌&&◌, ◌==◌, refl, sym, ap, ◌∙◌, arith, ℤ}
use Rattle.std.proofs.lemmas.List.{map-append, length-map}
use Rattle.std.proofs.lemmas.List.Elements.{filter-append}
use Rattle.sem_laws.proofs.Tests.{append-nothing}
use Rattle.sem_query.proofs.Has.{Has, first, later}
use Rattle.sem_laws.proofs.Sums.{sums, sums_same, sums_append, sums_map, sums_filter, sums_product, nested, nested_same_in, nested_parts, nested_passing, passes, passing, bit, bit-and, sums_both, sums_times}
use Rattle.sem_laws.proofs.Weights.{W, W-rows}
use Rattle.sem_laws.proofs.Admission.{fits}
use Rattle.sem_laws.proofs.OnePartFits.{one_part_fits}
use Rattle.sem_query.specs.Query.{QueryValue}
use Rattle.sem_query.specs.Meaning.{Arrival, rows, product, by_column, joined, assignment_of, answers}
use Rattle.sem_query.specs.Assignment.{holds, projected, KeepsDomains}
use Rattle.sem_query.specs.Tuples.{is_same}
use Rattle.sem_query.specs.declared.plan.PartPlan.{PartPlan}
use Rattle.sem_query.specs.Plan.{ArePartPlans}
use Rattle.sem_laws.proofs.Queries.{IsQuery}
use Rattle.sem_query.specs.Combinations.{Choice, linked}
use Rattle.sem_query.specs.Admission.{admits}

-- how often a tuple is in a list
abbrev pub times : List ℤ → List (List ℤ) → ℕ
times z ts = sums (λ t. bit (is_same z t)) ts

-- 1 where the assignment holds and has the tuple
abbrev pub gives : QueryValue → List ℤ → List (ℕ → ℤ) → ℕ
gives q z vs = bit (holds q (joined vs)) * bit (is_same z (projected q (joined vs)))

pub times-answers : (q : QueryValue) (z : List ℤ) (h : List Arrival)
    → times z (answers q h) ≡ nested (map (rows h) q.from) (λ c. gives q z (map by_column c))
times-answers q z h =
    sums_map (λ t. bit (is_same z t)) (λ c. projected q (assignment_of c)) (filter (λ c. holds q (assignment_of c)) (product (map (rows h) q.from)))
    ∙ sym (sums_filter (λ c. holds q (assignment_of c)) (λ c. bit (is_same z (projected q (assignment_of c)))) (product (map (rows h) q.from)))
    ∙ sums_product (map (rows h) q.from) (λ c. gives q z (map by_column c))

-- the rows of a stream that can be combined with the arriving row: itself in its own stream
abbrev pub arrived : List Arrival → Arrival → ℕ → List (List ℤ)
arrived h r stream = cond (r.stream == stream) (r.values ∷ []) (rows h stream)

rows-more : (h : List Arrival) (r : Arrival) (stream : ℕ)
    → rows (h ++ r ∷ []) stream ≡ rows h stream ++ cond (r.stream == stream) (r.values ∷ []) []
rows-more h r stream =
    ap (map (λ t. t.values)) (filter-append _ h (r ∷ [])) ∙ map-append _ _ _
    ∙ ap (λ l. rows h stream ++ l) (one (r.stream == stream))
  where
    one : (b : Bool) → map (λ t. t.values) (cond b (r ∷ []) []) ≡ cond b (r.values ∷ []) []
    one true = refl
    one false = refl

-- a stream is none of these
abbrev pub Absent : ℕ → List ℕ → Type 0
Absent stream from = (s : ℕ) → Has from s → (stream == s) ≡ false

rows-others : (h : List Arrival) (r : Arrival) (from : List ℕ) → Absent r.stream from
    → map (rows (h ++ r ∷ [])) from ≡ map (rows h) from
rows-others h r [] a = refl
rows-others h r (s ∷ from) a =
    let e : rows (h ++ r ∷ []) s ≡ rows h s
    = rows-more h r s ∙ ap (λ b. rows h s ++ cond b (r.values ∷ []) []) (a s first) ∙ append-nothing (rows h s) in
    let t : map (rows (h ++ r ∷ [])) from ≡ map (rows h) from = rows-others h r from (λ s k. a s (later k)) in
    cc

pub arrived-others : (h : List Arrival) (r : Arrival) (from : List ℕ) → Absent r.stream from
    → map (arrived h r) from ≡ map (rows h) from
arrived-others h r [] a = refl
arrived-others h r (s ∷ from) a =
    let e : arrived h r s ≡ rows h s = ap (λ b. cond b (r.values ∷ []) (rows h s)) (a s first) in
    let t : map (arrived h r) from ≡ map (rows h) from = arrived-others h r from (λ s k. a s (later k)) in
    cc

-- a stream stands once in a list
pub data Once (stream : ℕ) : List ℕ → Type 0 where
  here : {s : ℕ} {from : List ℕ} → (stream == s) ≡ true → Absent stream from → Once stream (s ∷ from)
  there : {s : ℕ} {from : List ℕ} → (stream == s) ≡ false → Once stream from → Once stream (s ∷ from)

pub nested-more : (h : List Arrival) (r : Arrival) (from : List ℕ) (f : List (List ℤ) → ℕ) → Once r.stream from
    → nested (map (rows (h ++ r ∷ [])) from) f ≡ nested (map (rows h) from) f + nested (map (arrived h r) from) f
unfolding nested
nested-more h r [] f o = elim o [ ]
nested-more h r (s ∷ from) f (here e a) =
    let l : rows (h ++ r ∷ []) s ≡ rows h s ++ (r.values ∷ [])
    = rows-more h r s ∙ ap (λ b. rows h s ++ cond b (r.values ∷ []) []) e in
    let k : arrived h r s ≡ r.values ∷ [] = ap (λ b. cond b (r.values ∷ []) (rows h s)) e in
    let F : List (List (List ℤ)) → List ℤ → ℕ = λ ls x. nested ls (λ c. f (x ∷ c)) in
    ap (λ ls. sums (F ls) (rows (h ++ r ∷ []) s)) (rows-others h r from a)
    ∙ ap (sums (F (map (rows h) from))) l
    ∙ sums_append (F (map (rows h) from)) (rows h s) (r.values ∷ [])
    ∙ ap (λ y. sums (F (map (rows h) from)) (rows h s) + y)
    (ap (sums (F (map (rows h) from))) (sym k) ∙ ap (λ ls. sums (F ls) (arrived h r s)) (sym (arrived-others h r from a)))
nested-more h r (s ∷ from) f (there e o) =
    let l : rows (h ++ r ∷ []) s ≡ rows h s
    = rows-more h r s ∙ ap (λ b. rows h s ++ cond b (r.values ∷ []) []) e ∙ append-nothing (rows h s) in
    let k : arrived h r s ≡ rows h s = ap (λ b. cond b (r.values ∷ []) (rows h s)) e in
    let A : List ℤ → ℕ = λ x. nested (map (rows h) from) (λ c. f (x ∷ c)) in
    let B : List ℤ → ℕ = λ x. nested (map (arrived h r) from) (λ c. f (x ∷ c)) in
    ap (sums (λ x. nested (map (rows (h ++ r ∷ [])) from) (λ c. f (x ∷ c)))) l
    ∙ sums_same _ (λ x. A x + B x) (rows h s) (λ x. nested-more h r from (λ c. f (x ∷ c)) o)
    ∙ sums_both A B (rows h s)
    ∙ ap (λ y. sums A (rows h s) + sums B y) (sym k)

pub nested-outside : (h : List Arrival) (r : Arrival) (from : List ℕ) (f : List (List ℤ) → ℕ) → Absent r.stream from
    → nested (map (rows (h ++ r ∷ [])) from) f ≡ nested (map (rows h) from) f
nested-outside h r from f a = ap (λ ls. nested ls f) (rows-others h r from a)

-- what the links and the tuple say of admitted rows or cells
abbrev pub linked_gives : QueryValue → PartPlan → List ℤ → List (ℕ → ℤ) → ℕ
linked_gives q part z vs = bit (linked part (joined vs)) * bit (is_same z (projected q (joined vs)))

passes-views : (t : ℕ → (ℕ → ℤ) → Bool) (n : ℕ) (c : List (List ℤ))
    → passes t n (map by_column c) ≡ passes (λ n row. t n (by_column row)) n c
passes-views t n [] = refl
passes-views t n (x ∷ c) = ap (λ b. t n (by_column x) && b) (passes-views t (suc n) c)

abbrev pub once_each : List (List (List ℤ)) → List (List Choice)
once_each ls = map (map (λ r. let c : Choice = record { values = by_column r; times = 1 } in c)) ls

-- the admitted rows of each list
abbrev pub admitted : QueryValue → PartPlan → List (List (List ℤ)) → List (List (List ℤ))
admitted q part ls = passing (λ n row. admits q part n (by_column row)) 0 ls

module _ (q : QueryValue) (plan : List PartPlan) (is : ArePartPlans q plan) (well : IsQuery q) where
  by_parts : (z : List ℤ) (vs : List (ℕ → ℤ)) → length vs ≡ length q.from → KeepsDomains q (joined vs)
      → gives q z vs ≡ sums (λ p. bit (passes (admits q p) 0 vs) * linked_gives q p z vs) plan
  by_parts z vs whole keeps =
      let m : ℕ = bit (is_same z (projected q (joined vs))) in
      ap (λ y. y * m) (one_part_fits q plan is well vs whole keeps)
      ∙ swapped (sums (λ p. bit (fits q p vs)) plan) m
      ∙ sym (sums_times m (λ p. bit (fits q p vs)) plan)
      ∙ sums_same _ _ plan (λ p. ap (λ y. m * y) (bit-and (passes (admits q p) 0 vs) (linked p (joined vs))) ∙ turned m (bit (passes (admits q p) 0 vs)) (bit (linked p (joined vs))))
    where
      swapped : (a b : ℕ) → a * b ≡ b * a
      swapped a b = omega arith

      turned : (m a b : ℕ) → m * (a * b) ≡ a * (b * m)
      turned m a b = omega arith

  -- the tuple's count over any lists of rows that keep to the domains, one per stream of FROM, is a sum over parts and admitted rows
  pub split : (z : List ℤ) (ls : List (List (List ℤ))) → length ls ≡ length q.from
      → ((c : List (List ℤ)) → Has (product ls) c → KeepsDomains q (joined (map by_column c)))
      → nested ls (λ c. gives q z (map by_column c)) ≡ sums (λ p. W (once_each (admitted q p ls)) (linked_gives q p z)) plan
  split z ls whole keep =
      nested_same_in ls _ (λ c. sums (λ p. bit (passes (λ n row. admits q p n (by_column row)) 0 c) * linked_gives q p z (map by_column c)) plan)
      (λ c i e. by_parts z (map by_column c) (length-map c by_column ∙ e ∙ whole) (keep c i)
      ∙ sums_same _ _ plan (λ p. ap (λ b. bit b * linked_gives q p z (map by_column c)) (passes-views (admits q p) 0 c)))
      ∙ nested_parts ls plan (λ p c. bit (passes (λ n row. admits q p n (by_column row)) 0 c) * linked_gives q p z (map by_column c))
      ∙ sums_same _ _ plan (λ p. nested_passing (λ n row. admits q p n (by_column row)) 0 ls (λ c. linked_gives q p z (map by_column c))
      ∙ W-rows (admitted q p ls) (linked_gives q p z))
