-- The ends of the domains of columns, with the places of their columns.
use Rattle.std.specs.Prelude.{ℕ, suc, ℤ, pos, nat_abs, ◌+ℤ◌, ◌-ℤ◌, Bool, List, [], ◌∷◌, ◌++◌, Option, Some, None}
use Rattle.sem_query.specs.Meaning.{by_column}
use Rattle.sql_catalog.specs.declared.column.ColumnDef.{ColumnDef}
use Rattle.sql_catalog.specs.declared.columns.ColumnEnds.{ColumnEnds}
use Rattle.sql_catalog.specs.Streams.{lies_within}

-- the ends of the domain of the column at a place, where it has one
abbrev pub ends_at : ℕ → Option (ℤ × ℤ) → List ColumnEnds
ends_at place None = []
ends_at place (Some ends) = record { column = place; lo = ends.0; width = nat_abs (ends.1 -ℤ ends.0) } ∷ []

-- those of columns, of which the first stands at this place
abbrev pub ends_from : ℕ → List ColumnDef → List ColumnEnds
ends_from place [] = []
ends_from place (c ∷ columns) = ends_at place c.domain ++ ends_from (suc place) columns

-- the greatest value between ends
abbrev pub greatest : ColumnEnds → ℤ
greatest ends = ends.lo +ℤ pos ends.width

-- whether the value of a column lies between its ends
abbrev pub is_between : List ℤ → ColumnEnds → Bool
is_between values ends = lies_within (Some (ends.lo, greatest ends)) (by_column values ends.column)
