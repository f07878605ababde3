-- Where columns stand in a list, as a table.
use Rattle.std.specs.Prelude.{◌≡◌, ℕ, ◌+◌, ◌*◌, ◌<◌, List, slice_index_or}
use Rattle.sem_query.specs.declared.atom.Attr.{Attr}
use Rattle.plan_constraints.specs.Nodes.{place_of}

-- the table tells the place of each of the first 8 columns of the first 4 streams
abbrev pub ArePlaces : List Attr → List ℕ → Type 0
ArePlaces xs places = (a : Attr) → a.stream < 4 → a.column < 8 → slice_index_or places (8 * a.stream + a.column) 0 ≡ place_of xs a
