-- What a walk over the combinations of a part needs of the plan.
use Rattle.std.specs.Prelude.{◌≡◌, ℕ, ◌+◌, ◌<◌, ◌≤◌, ◌==◌, false, List, [], if◌then◌else◌, length, Contains, All, AllPairs}
use Rattle.std.specs.List.{flat_map, slice_index_or}
use Rattle.sem_query.specs.declared.plan.PartPlan.{PartPlan}
use Rattle.sem_query.specs.Query.{QueryValue, IsWithinLimits}
use Rattle.sem_query.specs.Meaning.{Arrival, by_column}
use Rattle.sem_query.specs.Boxes.{AreFull, box_size, box, place_of}
use Rattle.sem_query.specs.Plan.{stream_at, dims_at}
use Rattle.sem_query.specs.Serving.{KeepsStreams}
use Rattle.sem_query.specs.Admission.{admits}
use Rattle.sem_query.specs.Combinations.{is_tied, Reading, choice_of, choices_at, found_in}
use Rattle.sem_query.specs.Numbers.{share, work}
use Rattle.sem_query.specs.Probing.{tried_share, found_beside}

-- no dim of the place is empty, each is of its stream, none is in the class of an earlier one, and the box lies within the cells
pub record IsWalkable (q : QueryValue) (part : PartPlan) (cells place : ℕ) : Type 0 where
  pub full : AreFull (dims_at part place)
  pub streams : All (λ d. d.attr.stream ≡ place) (dims_at part place)
  pub names : AllPairs (λ d e. is_tied q part d.attr e.attr ≡ false) (dims_at part place)
  pub room : (stream_at part place).base + (stream_at part place).size ≤ cells

-- all boxes of the parts lie within so many cells
abbrev pub AreWithin : ℕ → ℕ → List PartPlan → Type 0
AreWithin streams cells plan = (part : PartPlan) → Contains plan part → (place : ℕ) → place < streams → (stream_at part place).base + (stream_at part place).size ≤ cells

-- each part of a plan that keeps the streams, wherever its boxes begin within some cells, can be walked at each place, and a walk tries no more than the share of the part, which is part of the work
abbrev pub PlansAreWalkable : Type 0
PlansAreWalkable =
    (q : QueryValue) (plan : List PartPlan) → All (KeepsStreams q) plan → (cells : ℕ) → AreWithin (length q.from) cells plan
    → (part : PartPlan) → Contains plan part
    → ((place : ℕ) → place < length q.from → IsWalkable q part cells place)
    × ((arriving : ℕ) → arriving < length q.from → tried_share part arriving ≤ share part)
    × (share part ≤ work plan)

-- the cells to choose from, listed by the values of the dims in place of the places in the box
abbrev pub ChoicesGoByValues : Type 0
ChoicesGoByValues =
    (q : QueryValue) (part : PartPlan) (read : Reading) (r : Arrival) (place stream : ℕ)
    → (r.stream == stream) ≡ false → (stream_at part place).size ≡ box_size (dims_at part place)
    → choices_at q part read r place stream
    ≡ flat_map (λ xs. choice_of q part place xs (read part place (place_of (dims_at part place) xs))) (box (dims_at part place))

-- for a row that arrives at a place of FROM, the cells of a part answer what a walk finds, where the part admits the row, and else nothing
abbrev pub WalksFindAll : Type 0
WalksFindAll =
    (q : QueryValue) (part : PartPlan) → IsWithinLimits q → KeepsStreams q part
    → (read : Reading) (r : Arrival) (arriving : ℕ) → arriving < length q.from → slice_index_or q.from arriving 0 ≡ r.stream
    → found_in q part read r
    ≡ (if admits q part arriving (by_column r.values) then found_beside q part read arriving (by_column r.values) else [])
