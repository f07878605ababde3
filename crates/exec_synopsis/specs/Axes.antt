-- The dims of a place of FROM as every row is asked of them, and where a row stands in a part.
use Rattle.std.specs.Prelude.{◌≡◌, ◌≢◌, ℕ, ◌+◌, ◌<◌, ◌^◌, Bool, true, false, List, map, length, All, slice_get, ℤ, pos, ◌+ℤ◌, ◌≤ℤ◌, Option, Some, None}
use Rattle.sem_query.specs.declared.plan.Dim.{Dim}
use Rattle.sem_query.specs.declared.plan.PartPlan.{PartPlan}
use Rattle.sem_query.specs.Boxes.{dim_size, box_size, AreFull}
use Rattle.sem_query.specs.Plan.{stream_at, dims_at}
use Rattle.exec_synopsis.specs.declared.axes.Axis.{Axis}
use Rattle.exec_synopsis.specs.declared.axes.BoxLayout.{BoxLayout}
use Rattle.exec_synopsis.specs.declared.axes.Placement.{Placement}
use Rattle.exec_synopsis.specs.declared.axes.Placement.TheVariants.{Outside, Inside, Cell}
use Rattle.exec_synopsis.specs.Premises.{row_cell}

-- a dim as a row is asked of it
abbrev pub axis_of : Dim → Axis
axis_of d = record { lo = d.lo; size = dim_size d; column = d.attr.column }

-- its values have 64 bits
abbrev pub IsShort : Axis → Type 0
IsShort s = (s.lo +ℤ pos s.size) ≤ℤ pos (2 ^ 63)

-- how far a value is above the least one, where it is in range
abbrev pub IsAbove : ℤ → Axis → Option ℕ → Type 0
IsAbove v s None = (n : ℕ) → n < s.size → v ≢ s.lo +ℤ pos n
IsAbove v s (Some n) = (n < s.size) × (v ≡ s.lo +ℤ pos n)

-- these are the dims as a row is asked of them, and none of them is empty
pub record AreAxes (dims : List Dim) (axes : List Axis) : Type 0 where
  pub are : axes ≡ map axis_of dims
  pub full : AreFull dims
  pub short : All IsShort axes

-- what a row is asked at a place of FROM, where there are several: all dims; and the numbers of the cells of their box have 32 bits
pub record IsBoxLayout (part : PartPlan) (place : ℕ) (p : BoxLayout) : Type 0 where
  pub several : 1 < length part.streams.items
  pub axes : AreAxes (dims_at part place) p.axes.items
  pub base : p.base ≡ (stream_at part place).base
  pub kind : p.kind ≡ (stream_at part place).kind
  pub few : p.base + box_size (dims_at part place) < 2 ^ 32

-- each of these is what a row is asked at the place of its number
abbrev pub AreBoxLayouts : PartPlan → List BoxLayout → Type 0
AreBoxLayouts part places = (place : ℕ) (p : BoxLayout) → slice_get places place ≡ Some p → IsBoxLayout part place p

-- whether a row is admitted
abbrev pub is_inside : Placement → Bool
is_inside Outside = false
is_inside Inside = true
is_inside (Cell number kind) = true

-- where a cell is told, it is the one that stands for the row
abbrev pub IsCell : PartPlan → ℕ → List ℤ → Placement → Type 0
IsCell part place row Outside = Unit {0}
IsCell part place row Inside = Unit {0}
IsCell part place row (Cell number kind) = (1 < length part.streams.items) × (number ≡ row_cell part place row) × (kind ≡ (stream_at part place).kind)

-- where a row stands that is admitted or not
pub record IsPlacement (part : PartPlan) (place : ℕ) (row : List ℤ) (admitted : Bool) (placement : Placement) : Type 0 where
  pub inside : is_inside placement ≡ admitted
  pub cell : IsCell part place row placement
