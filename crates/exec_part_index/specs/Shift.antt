-- Boxes of two parts at one place of FROM that have the same dims: a row stands at the same place in both.
use Rattle.std.specs.Prelude.{◌≡◌, ℕ, ◌+◌, ◌<◌, ◌^◌, length}
use Rattle.sem_query.specs.declared.plan.PartPlan.{PartPlan}
use Rattle.sem_query.specs.Boxes.{box_size}
use Rattle.sem_query.specs.Plan.{stream_at, dims_at}
use Rattle.exec_synopsis.specs.declared.axes.Placement.{Placement}
use Rattle.exec_synopsis.specs.declared.axes.Placement.TheVariants.{Cell}
use Rattle.exec_part_index.specs.declared.shift.CellAt.{CellAt}
use Rattle.exec_part_index.specs.declared.shift.Shift.{Shift}

-- where a row stands whose cell is told
abbrev pub placed : CellAt → Placement
placed cell = Cell cell.number cell.kind

-- the box of the other part has the same dims and begins so many cells later, its cells are of this kind, and their numbers have 32 bits
pub record IsShifted (part other : PartPlan) (place : ℕ) (shift : Shift) : Type 0 where
  pub several : 1 < length other.streams.items
  pub dims : dims_at part place ≡ dims_at other place
  pub base : (stream_at other place).base ≡ (stream_at part place).base + shift.cells
  pub kind : shift.kind ≡ (stream_at other place).kind
  pub few : (stream_at other place).base + box_size (dims_at other place) < 2 ^ 32
