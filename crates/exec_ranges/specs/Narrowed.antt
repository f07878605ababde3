-- The dims that are left at a place of a walk.
use Rattle.std.specs.Prelude.{ℕ, ◌==◌, List, [], if◌then◌else◌, map, ℤ, length}
use Rattle.sem_query.specs.declared.plan.Dim.{Dim}
use Rattle.sem_query.specs.declared.plan.PartPlan.{PartPlan}
use Rattle.sem_query.specs.Plan.{dims_at}
use Rattle.sem_query.specs.declared.part.Pair.{Pair}
use Rattle.exec_ranges.specs.declared.binding.Binding.{Binding}
use Rattle.exec_ranges.specs.Values.{value_in}
use Rattle.exec_synopsis.specs.Narrowing.{narrow}

-- the dims to choose values of; the arriving row has none
unfoldable pub dims_in : PartPlan → ℕ → ℕ → List Dim
dims_in part arriving place = if place == arriving then [] else dims_at part place

-- the values to try for the next stream
unfoldable pub narrowed_dims : List Pair → PartPlan → ℕ → List ℤ → List Binding → List Dim
narrowed_dims ps part arriving row known = map (narrow arriving (length known) part.equal.items part.less.items (value_in ps part arriving row known)) (dims_in part arriving (length known))
