-- What a checkpoint tells of a query: how many rows were given, the cells that are not empty, and with DISTINCT the printed tuples.
use Rattle.std.specs.Prelude.{ℕ, ◌+◌, ℤ, pos, Bool, List, [], ◌∷◌, ◌++◌, map, if◌then◌else◌, Option, Some, None}
use Rattle.std.specs.List.{flat_map}
use Rattle.sem_query.specs.declared.cell.Cell.{Cell}
use Rattle.sem_query.specs.Bases.{Base}
use Rattle.sql_parser.specs.declared.tree.Statement.{Statement}
use Rattle.sql_parser.specs.declared.tree.Statement.TheVariants.{ResumeGiven, ResumeCell, ResumeTuple}
use Rattle.sql_printer.specs.Printed.{printed_form}

-- the content of a cell, where it is not empty: the count, the extreme, or 1 where it says that there are rows
abbrev pub content_in : Cell → Option ℤ
content_in Cell.Empty = None
content_in (Cell.Count n) = Some (pos n)
content_in Cell.Present = Some (pos 1)
content_in (Cell.Extreme z) = Some z

-- the statement for the cell of a number; there is none for an empty one
abbrev pub cell_statement : List ℕ → ℕ → Option ℤ → List Statement
cell_statement name i None = []
cell_statement name i (Some v) = ResumeCell name (pos i) v ∷ []

-- the statements for cells that are numbered from i on
unfoldable pub cell_statements : List ℕ → ℕ → List Cell → List Statement
cell_statements name i [] = []
cell_statements name i (c ∷ cells) = cell_statement name i (content_in c) ++ cell_statements name (i + 1) cells

-- the statements for printed tuples
abbrev pub tuple_statements : List ℕ → List (List ℤ) → List Statement
tuple_statements name tuples = map (λ t. ResumeTuple name (record { items = t })) tuples

-- with DISTINCT they are told, and without it none is
abbrev pub printed_statements : List ℕ → Bool → List (List ℤ) → List Statement
printed_statements name distinct tuples = if distinct then tuple_statements name tuples else []

-- the statements that tell what a query of this name keeps
abbrev pub kept_statements : List ℕ → Bool → Base → List Statement
kept_statements name distinct base =
    ResumeGiven name (pos base.given) ∷ cell_statements name 0 base.cells ++ printed_statements name distinct base.table

-- the text of lines
abbrev pub text_of_lines : List (List ℕ) → List ℕ
text_of_lines lines = flat_map (λ line. line ++ 10 ∷ []) lines

-- the text of statements, each in its printed form on a line of its own
abbrev pub statements_text : List Statement → List ℕ
statements_text statements = text_of_lines (map printed_form statements)
