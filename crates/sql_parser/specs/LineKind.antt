-- What a line is, before it is read.
pub use Rattle.sql_catalog.specs.Rows.{is_row_line as is_row, IsRowText}
use Rattle.std.specs.Prelude.{ℕ, Bool, true, false, ◌&&◌, ◌==◌, if◌then◌else◌, List, [], ◌∷◌}
use Rattle.std.specs.Io.BufRead.{strip_last}
use Rattle.sql_text.specs.Blank.{trimmed}
use Rattle.sql_parser.specs.declared.line.LineKind.{LineKind}
use Rattle.sql_parser.specs.declared.line.LineKind.TheVariants as kinds

-- one CR at the end is dropped
abbrev pub without_return : List ℕ → List ℕ
without_return line = strip_last 13 line

-- what is left of a line: without one CR, and then without blanks at both ends
abbrev pub stripped : List ℕ → List ℕ
stripped line = trimmed (without_return line)

-- whether the first byte is b
abbrev pub begins_with : ℕ → List ℕ → Bool
begins_with b [] = false
begins_with b (c ∷ bs) = c == b

-- nothing is left, or what begins with `--`
abbrev pub is_nothing : List ℕ → Bool
is_nothing [] = true
is_nothing (b ∷ bs) = b == 45 && begins_with 45 bs

-- the kind of what is left
abbrev pub kind_of_line : List ℕ → LineKind
kind_of_line bs = if is_nothing bs then kinds.Nothing else (if is_row bs then kinds.RowLine else kinds.StatementLine)
