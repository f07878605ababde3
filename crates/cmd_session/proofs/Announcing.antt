-- Sums over live queries.
use Rattle.std.proofs.Common.{◌≡◌, ℕ, suc, ◌+◌, ◌<◌, List, [], ◌∷◌, length, take, slice_index_or, refl, sym, ap, ◌∙◌, arith}
use Rattle.std.specs.List.{sum_by}
use Rattle.std.proofs.lemmas.List.Sums.{sum_by-cons, sum_by_more}
use Rattle.sem_query.specs.declared.plan.Plan.{Plan}
use Rattle.exec_pool.specs.Extents.{PoolValue}
use Rattle.exec_registry.specs.Live.{Live}
use Rattle.exec_registry.specs.Live.{LiveQuery}
use Rattle.exec_registry.specs.Registry.{AreLiveFor}

-- one more live query, by its plan
pub one_more_plan : (f : Plan → ℕ) (live : List Live) (i : ℕ) (plan : Plan) → i < length live → ((d : Live) → plan ≡ (slice_index_or live i d).executor.plan)
    → sum_by (λ (l : Live). f l.executor.plan) (take (i + 1) live) ≡ sum_by (λ (l : Live). f l.executor.plan) (take i live) + f plan
one_more_plan f [] i plan lt e = absurd (omega (arith, lt))
one_more_plan f (l ∷ live) i plan lt e =
    sum_by_more (λ (x : Live). f x.executor.plan) (l ∷ live) i l lt
    ∙ ap (λ n. sum_by (λ (x : Live). f x.executor.plan) (take i (l ∷ live)) + n) (ap f (sym (e l)))

-- what is kept has the plans of the live queries that it stands for
pub sums_agree : (f : Plan → ℕ) (pool : PoolValue) (live : List Live) (queries : List LiveQuery) → AreLiveFor pool live queries
    → sum_by (λ (l : Live). f l.executor.plan) live ≡ sum_by (λ (q : LiveQuery). f q.plan) queries
sums_agree f pool [] [] all = refl
sums_agree f pool [] (q ∷ queries) all = absurd (omega (arith, all.size))
sums_agree f pool (l ∷ live) [] all = absurd (omega (arith, all.size))
sums_agree f pool (l ∷ live) (q ∷ queries) all =
    let one : f l.executor.plan ≡ f q.plan = ap f (all.each 0 l q (omega arith)).plan in
    let others : AreLiveFor pool live queries = record { size = omega (arith, all.size); each = λ i c d a. all.each (suc i) c d (omega arith) } in
    let rest = sums_agree f pool live queries others in
    let left = sum_by-cons (λ (x : Live). f x.executor.plan) l live in
    let right = sum_by-cons (λ (x : LiveQuery). f x.plan) q queries in
    omega (arith, one, rest, left, right)
