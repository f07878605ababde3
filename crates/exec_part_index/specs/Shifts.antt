-- Parts that follow each other in a chain, have the same code and the same remaining conditions, and the same dims at a place of FROM: a row stands at
-- the same place of both.
use Rattle.std.specs.Prelude.{◌≡◌, ℕ, ◌<◌, ℤ, List, length, slice_get, slice_index_or, Some}
use Rattle.sem_query.specs.declared.plan.PartPlan.{PartPlan}
use Rattle.sem_query.specs.Query.{QueryValue}
use Rattle.sem_query.specs.Meaning.{by_column}
use Rattle.sem_query.specs.Admission.{admits}
use Rattle.exec_part_index.specs.declared.shift.CellAt.{CellAt}
use Rattle.exec_part_index.specs.declared.shift.Shift.{Shift}
use Rattle.exec_part_index.specs.declared.span.Span.{Span}
use Rattle.exec_synopsis.specs.Axes.{IsPlacement}
use Rattle.exec_part_index.specs.Span.{no_span}
use Rattle.exec_part_index.specs.Shift.{IsShifted, placed}

-- the next part of the bucket has the code and the remaining conditions of the part of this number
pub record HasNextAlike (parts : List PartPlan) (codes links : List ℕ) (spans : List Span) (i : ℕ) : Type 0 where
  pub within : slice_index_or links i 0 < length parts
  pub code : slice_index_or codes i 0 ≡ slice_index_or codes (slice_index_or links i 0) 0
  pub span : slice_index_or spans i no_span ≡ slice_index_or spans (slice_index_or links i 0) no_span

-- so it has, and its box is shifted so
pub record IsNextShifted (parts : List PartPlan) (place : ℕ) (codes links : List ℕ) (spans : List Span) (i : ℕ) (shift : Shift) : Type 0 where
  pub alike : HasNextAlike parts codes links spans i
  pub box : (part next : PartPlan) → slice_get parts i ≡ Some part → slice_get parts (slice_index_or links i 0) ≡ Some next → IsShifted part next place shift

-- there is a part of this number, it admits a row, and this is the row's cell there
pub record StandsAt (q : QueryValue) (parts : List PartPlan) (pos : ℕ) (row : List ℤ) (i : ℕ) (cell : CellAt) : Type 0 where
  pub within : i < length parts
  pub stands : (part : PartPlan) → slice_get parts i ≡ Some part → IsPlacement part pos row (admits q part pos (by_column row)) (placed cell)
