-- The columns that comparisons name, as the tokens of a line tell them.
use Rattle.std.specs.Prelude.{ℕ, ◌&&◌, if◌then◌else◌, List, [], ◌∷◌, slice_range, Option, Some, None}
use Rattle.sql_lexer.specs.declared.token.Token.{Token}
use Rattle.sql_parser.specs.declared.tree.ColumnAst.{ColumnAst}
use Rattle.sql_parser.specs.DraftLimits.{is_word_kind}
use Rattle.adv_diagnosis.specs.declared.passing.ColumnTokens.{ColumnTokens}
use Rattle.adv_diagnosis.specs.declared.marks.Anchor.TheVariants as anchors
use Rattle.adv_diagnosis.specs.Marks.{is_point, behind_anchor}

-- the column that begins with a token: a name, and behind it a point and a name
abbrev pub column_with : Token → List Token → Option ColumnTokens
column_with t (p ∷ c ∷ ts) = if is_word_kind t.kind && is_point p.kind && is_word_kind c.kind then Some (record { stream = t; column = c }) else None
column_with t _ = None

-- the column of such tokens
abbrev pub column_of : List ℕ → ColumnTokens → ColumnAst
column_of line c = record { stream = slice_range line c.stream.from c.stream.to; column = slice_range line c.column.from c.column.to }

-- columns, with one more in front where there is one
abbrev pub and_column : List ℕ → Option ColumnTokens → List ColumnAst → List ColumnAst
and_column line None columns = columns
and_column line (Some c) columns = column_of line c ∷ columns

-- the columns among tokens
abbrev pub columns_at : List ℕ → List Token → List ColumnAst
columns_at line [] = []
columns_at line (t ∷ ts) = and_column line (column_with t ts) (columns_at line ts)

-- the columns that comparisons name: those behind WHERE
abbrev pub columns_compared : List ℕ → List Token → List ColumnAst
columns_compared line ts = columns_at line (behind_anchor anchors.Where ts)
