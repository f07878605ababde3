-- What a row that is led along a chain meets at a part.
use Rattle.std.specs.Prelude.{◌≡◌, ℕ, ℤ, true, List, length, slice_get, slice_index_or, Some}
use Rattle.std.specs.Option.{IfSome}
use Rattle.sem_query.specs.declared.plan.PartPlan.{PartPlan}
use Rattle.exec_synopsis.specs.declared.axes.Placement.{Placement}
use Rattle.exec_part_index.specs.declared.shift.CellAt.{CellAt}
use Rattle.exec_part_index.specs.declared.span.Span.{Span}
use Rattle.exec_part_index.specs.declared.part_entry.PartEntry.{PartEntry}
use Rattle.exec_part_index.specs.declared.simple_box.SimpleBox.{SimpleBox}
use Rattle.exec_part_index.specs.Span.{no_span}
use Rattle.exec_part_index.specs.Shift.{placed}
use Rattle.exec_part_index.specs.Shifts.{HasNextAlike, IsNextShifted}
use Rattle.exec_part_index.specs.SimpleBox.{IsSimpleBox, IsInBox}

-- the box of the part of a number, as it is listed
abbrev pub IsSimpleBoxOf : List PartPlan → ℕ → ℕ → SimpleBox → Type 0
IsSimpleBoxOf parts place i simple_box = (part : PartPlan) → slice_get parts i ≡ Some part → IsSimpleBox part place simple_box

-- where a row stands in the part of a number by the ranges of its dims
abbrev pub IsInBoxOf : List PartPlan → ℕ → List ℤ → ℕ → Placement → Type 0
IsInBoxOf parts place row i placement = (part : PartPlan) → slice_get parts i ≡ Some part → IsInBox part place row placement

-- by the ranges of the dims of the part of a number, this is a row's cell there
abbrev pub IsCellIn : List PartPlan → ℕ → List ℤ → ℕ → CellAt → Type 0
IsCellIn parts place row i cell = IsInBoxOf parts place row i (placed cell)

-- the code of the part of a number, its remaining conditions and its box, the next part of its bucket, and what is told of that
pub record IsPartEntry (parts : List PartPlan) (place : ℕ) (codes links : List ℕ) (spans : List Span) (i : ℕ) (entry : PartEntry) : Type 0 where
  pub simple_box : IsSimpleBoxOf parts place i entry.simple_box
  pub shift : IfSome entry.shift (λ shift. IsNextShifted parts place codes links spans i shift)
  pub code : entry.code ≡ slice_index_or codes i 0
  pub next : entry.next ≡ slice_index_or links i 0
  pub span : entry.span ≡ slice_index_or spans i no_span
  pub follows : entry.follows ≡ true → HasNextAlike parts codes links spans i

-- that of each part
pub record ArePartEntries (parts : List PartPlan) (place : ℕ) (codes links : List ℕ) (spans : List Span) (entries : List PartEntry) : Type 0 where
  pub many : length entries ≡ length parts
  pub each : (i : ℕ) (entry : PartEntry) → slice_get entries i ≡ Some entry → IsPartEntry parts place codes links spans i entry
