-- The box of a part at a place of FROM, where it has at most two dims.
use Rattle.std.specs.Prelude.{◌≡◌, ℕ, ℤ, List, [], ◌∷◌}
use Rattle.std.specs.List.{list_all}
use Rattle.sem_query.specs.declared.plan.PartPlan.{PartPlan}
use Rattle.sem_query.specs.Meaning.{by_column}
use Rattle.sem_query.specs.Plan.{dims_at}
use Rattle.sem_query.specs.Admission.{in_range}
use Rattle.exec_synopsis.specs.declared.axes.Axis.{Axis}
use Rattle.exec_synopsis.specs.declared.axes.Placement.{Placement}
use Rattle.exec_synopsis.specs.Axes.{IsBoxLayout, IsPlacement}
use Rattle.exec_part_index.specs.declared.simple_box.DimRange.{DimRange}
use Rattle.exec_part_index.specs.declared.simple_box.OneDimBox.{OneDimBox}
use Rattle.exec_part_index.specs.declared.simple_box.TwoDimBox.{TwoDimBox}
use Rattle.exec_part_index.specs.declared.simple_box.SimpleBox.{SimpleBox}

-- a dim as a row is asked of it
abbrev pub axis_in : DimRange → Axis
axis_in range = record { lo = range.lo; size = range.size; column = range.column }

-- a box of one dim, as a row is asked of it
abbrev pub IsOneDimBox : PartPlan → ℕ → OneDimBox → Type 0
IsOneDimBox part place single = IsBoxLayout part place (record { axes = record { items = axis_in single.range ∷ [] }; base = single.base; kind = single.kind })

-- a box of two dims, as a row is asked of it
abbrev pub IsTwoDimBox : PartPlan → ℕ → TwoDimBox → Type 0
IsTwoDimBox part place double = IsBoxLayout part place (record { axes = record { items = axis_in double.first ∷ (axis_in double.second ∷ []) }; base = double.base; kind = double.kind })

-- the box as it is listed
abbrev pub IsSimpleBox : PartPlan → ℕ → SimpleBox → Type 0
IsSimpleBox part place SimpleBox.Unlisted = Unit {0}
IsSimpleBox part place (SimpleBox.Cell cell) = IsBoxLayout part place (record { axes = record { items = [] }; base = cell.number; kind = cell.kind })
IsSimpleBox part place (SimpleBox.OneDim single) = IsOneDimBox part place single
IsSimpleBox part place (SimpleBox.TwoDim double) = IsTwoDimBox part place double
IsSimpleBox part place (SimpleBox.Range dim) = dims_at part place ≡ dim ∷ []

-- where a row stands by the ranges of the dims
abbrev pub IsInBox : PartPlan → ℕ → List ℤ → Placement → Type 0
IsInBox part place row placement = IsPlacement part place row (list_all (in_range (by_column row)) (dims_at part place)) placement
