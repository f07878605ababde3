-- The cell that a row falls into.
use Rattle.std.specs.Prelude.{◌≡◌, ℕ, ℤ, List, [], ◌∷◌, slice_index_or}
use Rattle.sem_query.specs.declared.cell.Cell.{Cell}
use Rattle.sem_query.specs.declared.cell.Cell.TheVariants.{Empty}
use Rattle.sem_query.specs.declared.plan.PartPlan.{PartPlan}
use Rattle.sem_query.specs.Plan.{stream_at}
use Rattle.sem_query.specs.Cells.{content}
use Rattle.sem_query.specs.Merge.{merged}
use Rattle.exec_synopsis.specs.declared.own.OwnCell.{OwnCell}
use Rattle.exec_synopsis.specs.Premises.{row_cell}

-- what the cell that a row falls into holds with the row
abbrev pub with_row : OwnCell → List ℤ → Cell
with_row own row = merged own.kind own.held (content own.kind (row ∷ []))

-- the cell of some cells that stands for a row at a place of FROM: what it keeps of rows, and what it holds
pub record IsOwnCell (part : PartPlan) (place : ℕ) (row : List ℤ) (cells : List Cell) (own : OwnCell) : Type 0 where
  pub number : own.number ≡ row_cell part place row
  pub kind : own.kind ≡ (stream_at part place).kind
  pub held : own.held ≡ slice_index_or cells (row_cell part place row) Empty
