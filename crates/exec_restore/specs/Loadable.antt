-- What a number that a checkpoint tells may fill a cell with, and which tuples may be told.
use Rattle.std.specs.Prelude.{Bool, true, false, IsTrue, IsFalse, ℕ, ◌-◌, ◌+◌, ◌&&◌, nat_lt, nat_le, int_le, ℤ, pos, nat_abs, Option, Some, None, List, [], ◌∷◌, if◌then◌else◌}
use Rattle.sem_query.specs.declared.cell.Cell.{Cell}
use Rattle.std.specs.Ordering.{int_eq}
use Rattle.sem_query.specs.declared.plan.Kind.{Kind}
use Rattle.sem_query.specs.declared.plan.Dim.{Dim}
use Rattle.sem_query.specs.declared.plan.StreamPlan.{StreamPlan}
use Rattle.sem_query.specs.declared.plan.Plan.{Plan}
use Rattle.sem_query.specs.declared.plan.Plan.TheVariants as plan
use Rattle.sem_query.specs.Query.{QueryValue, is_filter}
use Rattle.sem_query.specs.Plan.{stream_at}
use Rattle.sem_query.specs.Serving.{IsServing, AreBased}
use Rattle.sem_query.specs.Sharing.{Box, size_in}

-- the parts of a plan serve the query and their boxes begin where they should, whatever its numbers; a filter has none
abbrev pub IsBasedPlan : Bool → QueryValue → Plan → Type 0
IsBasedPlan shared q plan.Filter = IsTrue (is_filter q)
IsBasedPlan shared q (plan.Parts parts numbers) = IsFalse (is_filter q) × IsServing q parts × AreBased shared q parts

abbrev pub is_empty : Cell → Bool
is_empty Cell.Empty = true
is_empty (Cell.Count n) = false
is_empty Cell.Present = false
is_empty (Cell.Extreme z) = false

-- the kind of the cell of a number, over the boxes that are kept; behind them is none
unfoldable pub kind_at : List Box → ℕ → Option Kind
kind_at [] i = None
kind_at (b ∷ boxes) i = if nat_lt i (size_in b) then Some (stream_at b.part b.place).kind else kind_at boxes (i - size_in b)

-- the cell of this content, by its kind and the number of rows given: a count is 1 up to that number, and the content 1 says that there are rows
abbrev pub filled_cell : ℕ → Kind → ℤ → Option Cell
filled_cell given Kind.Count v = if int_le (pos 1) v && int_le v (pos given) then Some (Cell.Count (nat_abs v)) else None
filled_cell given Kind.Present v = if int_eq v (pos 1) then Some Cell.Present else None
filled_cell given (Kind.Least a) v = Some (Cell.Extreme v)
filled_cell given (Kind.Greatest a) v = Some (Cell.Extreme v)

-- whether the box of a stream has the cell of a number
abbrev pub has_cell : ℕ → StreamPlan → Bool
has_cell i s = nat_le s.base i && nat_lt i (s.base + s.size)

-- the kind of the first of these boxes that has the cell of a number
abbrev pub kind_in : List StreamPlan → ℕ → Option Kind
kind_in [] i = None
kind_in (s ∷ streams) i = if has_cell i s then Some s.kind else kind_in streams i

-- whether there is one value for each dim, within its range
abbrev pub are_inside : List Dim → List ℤ → Bool
are_inside [] [] = true
are_inside [] (x ∷ xs) = false
are_inside (d ∷ dims) [] = false
are_inside (d ∷ dims) (x ∷ xs) = (int_le d.lo x && int_le x d.hi) && are_inside dims xs
