-- What the chosen cells say of the columns.
use Rattle.std.specs.Prelude.{ℕ, ◌==◌, List, [], ◌∷◌, ℤ, pos, if◌then◌else◌, slice_get, slice_index_or, Option, Some, None}
use Rattle.sem_query.specs.declared.atom.Attr.{Attr}
use Rattle.sem_query.specs.declared.cell.Cell.{Cell}
use Rattle.sem_query.specs.declared.cell.Cell.TheVariants.{Empty, Count, Present, Extreme}
use Rattle.sem_query.specs.declared.part.Pair.{Pair}
use Rattle.sem_query.specs.declared.plan.Dim.{Dim}
use Rattle.sem_query.specs.declared.plan.PartPlan.{PartPlan}
use Rattle.sem_query.specs.Meaning.{by_column}
use Rattle.sem_query.specs.Plan.{dims_at}
use Rattle.exec_ranges.specs.declared.binding.Binding.{Binding}
use Rattle.exec_synopsis.specs.Classes.{are_tied}

-- the value of a column where the dims have these values: that of its class, or the extreme z where no dim is of its class
abbrev pub valued : List Pair → PartPlan → List Dim → List ℤ → ℤ → Attr → ℤ
valued ps part [] xs z a = z
valued ps part (d ∷ dims) [] z a = z
valued ps part (d ∷ dims) (x ∷ xs) z a = if are_tied ps part d.attr a then x else valued ps part dims xs z a

-- the value at a place, where there is one, or else another
abbrev pub value_or : List ℤ → ℤ → Option ℕ → ℤ
value_or xs z None = z
value_or xs z (Some k) = slice_index_or xs k z

-- the extreme that a cell keeps, and 0 where it keeps none
abbrev pub extreme_of : Cell → ℤ
extreme_of Empty = pos 0
extreme_of (Count n) = pos 0
extreme_of Present = pos 0
extreme_of (Extreme z) = z

-- for how many rows a cell stands in a combination
abbrev pub rows_in : Cell → ℕ
rows_in Empty = 0
rows_in (Count n) = n
rows_in Present = 1
rows_in (Extreme z) = 1

-- the value of a column in the cell that was chosen for its stream, 0 where none was
abbrev pub chosen_value : List Pair → PartPlan → Attr → Option Binding → ℤ
chosen_value ps part a None = pos 0
chosen_value ps part a (Some c) = valued ps part (dims_at part a.stream) c.values.items (extreme_of c.cell) a

-- the value of a column for a walk that has chosen at some places: the arriving row's own, or that of the chosen cell
unfoldable pub value_in : List Pair → PartPlan → ℕ → List ℤ → List Binding → Attr → ℤ
value_in ps part arriving row known a =
    if a.stream == arriving then by_column row a.column else chosen_value ps part a (slice_get known a.stream)
