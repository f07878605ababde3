-- What the arriving row's own columns leave at another place, before anything is chosen there.
use Rattle.std.specs.Prelude.{◌≡◌, ℕ, ◌+◌, ◌-◌, ◌<◌, ◌==◌, nat_lt, ℤ, List, map, slice_index_or, if◌then◌else◌}
use Rattle.sem_query.specs.Boxes.{box_size, values_at, place_of, AreNumbered, AreInside}
use Rattle.sem_query.specs.Combinations.{Reading}
use Rattle.sem_query.specs.Meaning.{by_column}
use Rattle.sem_query.specs.Plan.{dims_at}
use Rattle.sem_query.specs.declared.cell.Cell.{Cell}
use Rattle.sem_query.specs.declared.cell.Cell.TheVariants.{Empty}
use Rattle.sem_query.specs.declared.plan.Dim.{Dim}
use Rattle.sem_query.specs.declared.plan.PartPlan.{PartPlan}
use Rattle.sem_query.specs.declared.plan.StreamPlan.{StreamPlan}
use Rattle.exec_synopsis.specs.Narrowing.{clip}

-- the last place that a walk over so many streams comes to
abbrev pub last_beside : ℕ → ℕ → ℕ
last_beside streams arriving = if arriving == streams - 1 then streams - 2 else streams - 1

-- the place that a walk over four streams comes to before it
abbrev pub third_beside : ℕ → ℕ
third_beside arriving = if nat_lt arriving 2 then 2 else 1

-- the dims of a place, each with the values that the inequalities with the row's own columns leave
abbrev pub beside_dims : PartPlan → ℕ → List ℤ → ℕ → List Dim
beside_dims part arriving row place = map (clip arriving 0 part.less.items (λ a. by_column row a.column)) (dims_at part place)

-- the cells of a place for these values are empty
abbrev pub IsEmptyBeside : PartPlan → Reading → ℕ → List ℤ → ℕ → Type 0
IsEmptyBeside part read arriving row place =
    (i : ℕ) → i < box_size (beside_dims part arriving row place) → read part place (place_of (dims_at part place) (values_at (beside_dims part arriving row place) i)) ≡ Empty

-- the values of these dims are values of the whole ones
pub record IsInnerBox (whole dims : List Dim) : Type 0 where
  pub sound : AreNumbered dims
  pub inside : (values : List ℤ) → AreInside dims values → AreInside whole values
  pub low : 0 < box_size dims → AreInside whole (map (λ d. d.lo) dims)

-- the cells of a box for the values of these dims are empty
abbrev pub IsEmptyIn : StreamPlan → List Cell → List Dim → Type 0
IsEmptyIn plan cells dims = (i : ℕ) → i < box_size dims → slice_index_or cells (plan.base + place_of plan.dims.items (values_at dims i)) Empty ≡ Empty
