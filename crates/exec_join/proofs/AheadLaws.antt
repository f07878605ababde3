-- What marks tell of cells.
use Rattle.std.proofs.Common.{◌≡◌, ℕ}
use Rattle.std.specs.Prelude.{false, Option, None, Some, is_some}
use Rattle.sem_query.specs.declared.cell.Cell.{Cell}
use Rattle.exec_pool.specs.declared.scan.Occupied.{Occupied}
use Rattle.exec_pool.specs.Strides.{NoneOccupied, Marked}

-- no word of marks told of one
pub marked-none : (at : ℕ → Cell) (first count before : ℕ) (found : Option Occupied) (after : ℕ) → is_some found ≡ false → Marked at first count before found after → NoneOccupied at 0 count
marked-none at first count before None after e h = h.0
marked-none at first count before (Some occupied) after e h = absurd (let z : ⊥ = cc in z)
