-- The text of a name with two parts.
use Rattle.std.specs.Prelude.{ℕ, List, ◌∷◌, ◌++◌}
use Rattle.sql_parser.specs.declared.tree.ColumnAst.{ColumnAst}

-- a column: its stream, a point and its name
abbrev pub column_text : ColumnAst → List ℕ
column_text c = c.stream ++ 46 ∷ c.column
