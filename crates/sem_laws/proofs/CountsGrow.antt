-- How often a tuple waits, counted over the parts.
use Rattle.std.proofs.Common.{◌≡◌, ℕ, zero, suc, ◌+◌, ◌*◌, ◌<◌, List, [], length, cond, Bool, true, false, ap, ◌∙◌, arith, ℤ}
use Rattle.std.specs.List.{flat_map, slice_index_or}
use Rattle.sem_query.proofs.Has.{Has}
use Rattle.sem_laws.proofs.Sums.{sums, sums_same, sums_flat_map, sums_product, bit}
use Rattle.sem_laws.proofs.Weights.{W, W-nested, values_of}
use Rattle.sem_laws.proofs.Counts.{times, linked_gives}
use Rattle.sem_query.specs.Query.{QueryValue}
use Rattle.sem_query.specs.Assignment.{projected}
use Rattle.sem_query.specs.Meaning.{Arrival, product, joined}
use Rattle.sem_query.specs.Tuples.{is_same}
use Rattle.sem_query.specs.declared.plan.PartPlan.{PartPlan}
use Rattle.sem_query.specs.Plan.{stream_at}
use Rattle.sem_query.specs.Combinations.{Choice, linked, choices, Reading, times_of}
use Rattle.sem_query.specs.Cells.{cell_of}
use Rattle.std.specs.Prelude.{replicate}
use Rattle.sem_laws.proofs.Waiting.{tuples, waiting-tuples}
use Rattle.sem_query.specs.Future.{waiting}

pub times-repeated : (z : List ℤ) (n : ℕ) (t : List ℤ) → times z (replicate n t) ≡ n * bit (is_same z t)
unfolding sums
times-repeated z zero t = omega arith
times-repeated z (suc n) t = omega (arith, times-repeated z n t)

times-tuples : (q : QueryValue) (part : PartPlan) (z : List ℤ) (chosen : List Choice)
    → times z (tuples q part chosen) ≡ times_of chosen * linked_gives q part z (values_of chosen)
unfolding sums
times-tuples q part z chosen = by (linked part (joined (values_of chosen)))
  where
    t : List ℤ
    t = projected q (joined (values_of chosen))

    by : (b : Bool) → times z (cond b (replicate (times_of chosen) t) []) ≡ times_of chosen * (bit b * bit (is_same z t))
    by true = times-repeated z (times_of chosen) t ∙ omega arith
    by false = omega arith

pub times-waiting : (q : QueryValue) (plan : List PartPlan) (read : Reading) (r : Arrival) (z : List ℤ)
    → times z (waiting q plan read r) ≡ sums (λ p. W (choices q p read r 0 q.from) (linked_gives q p z)) plan
times-waiting q plan read r z =
    ap (times z) (waiting-tuples q plan read r)
    ∙ sums_flat_map (λ t. bit (is_same z t)) (λ p. flat_map (tuples q p) (product (choices q p read r 0 q.from))) plan
    ∙ sums_same _ _ plan (λ p.
    sums_flat_map (λ t. bit (is_same z t)) (tuples q p) (product (choices q p read r 0 q.from))
    ∙ sums_same _ _ (product (choices q p read r 0 q.from)) (λ c. times-tuples q p z c)
    ∙ sums_product (choices q p read r 0 q.from) (λ c. times_of c * linked_gives q p z (values_of c))
    ∙ W-nested (choices q p read r 0 q.from) (linked_gives q p z))

-- the reading gives the cells of the history
abbrev pub Stands : QueryValue → List PartPlan → List Arrival → Reading → Type 0
Stands q plan h read =
    (p : PartPlan) → Has plan p → (place i : ℕ) → place < length q.from → i < (stream_at p place).size → read p place i ≡ cell_of q h p place i

-- the streams from a place of FROM on
abbrev pub IsTail : List ℕ → ℕ → List ℕ → Type 0
IsTail whole n from =
    (i m : ℕ) → i < length from → m ≡ n + i → (m < length whole) × (slice_index_or whole m 0 ≡ slice_index_or from i 0)
