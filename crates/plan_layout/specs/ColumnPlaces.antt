-- Columns among columns.
use Rattle.std.specs.Prelude.{◌≡◌, ℕ, ◌<◌, Bool, ◌||◌, List, Contains, length, slice_index_or, Option, None, Some}
use Rattle.sem_query.specs.declared.atom.Attr.{Attr}
use Rattle.sem_query.specs.declared.plan.Link.{Link}
use Rattle.sem_query.specs.Query.{QueryValue, attrs_of, attr_eq}
use Rattle.std.specs.List.{list_any}

-- the attribute of the query at a place, in their order
abbrev pub attr_at : QueryValue → ℕ → Attr
attr_at q i = slice_index_or (attrs_of q.atoms) i record { stream = 0; column = 0 }

-- the place of a column among some, or none where it is not there
abbrev pub IsPlace : List Attr → Attr → Option ℕ → Type 0
IsPlace xs a None = ¬ Contains xs a
IsPlace xs a (Some i) = (i < length xs) × ((d : Attr) → slice_index_or xs i d ≡ a)

-- the column is a side of a link
abbrev pub is_side : List Link → Attr → Bool
is_side links a = list_any (λ l. attr_eq l.left a || attr_eq l.right a) links
