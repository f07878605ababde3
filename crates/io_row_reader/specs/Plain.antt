-- Lines that are read in one pass.
use Rattle.std.specs.Prelude.{◌≡◌, ℕ, Bool, true, ◌||◌, ◌==◌, ℤ, List, [], ◌∷◌, ◌++◌, take, Some}
use Rattle.std.specs.List.{list_all}
use Rattle.std.specs.declared.result.Result.TheVariants.{Ok}
use Rattle.sql_text.specs.Value.{integer_len, value_of}
use Rattle.sql_text.specs.Word.{is_word_byte}
use Rattle.sql_catalog.specs.Streams.{Shape, KeepsDomains}
use Rattle.sql_catalog.specs.Rows.{entry, row_of}
use Rattle.sql_parser.specs.declared.line.LineKind.TheVariants as kinds
use Rattle.sql_parser.specs.LineKind.{stripped, kind_of_line}

-- a byte of a word, a sign or a comma
abbrev pub is_plain_byte : ℕ → Bool
is_plain_byte b = is_word_byte b || (b == 43 || (b == 44 || b == 45))

-- a text of such bytes alone
abbrev pub IsPlain : List ℕ → Type 0
IsPlain text = list_all is_plain_byte text ≡ true

-- The integer at the front of a text has this length, and its value is added to a row.
pub record AddsInteger (text : List ℕ) (len : ℕ) (old new : List ℤ) : Type 0 where
  pub value : ℤ
  pub size : len ≡ integer_len text
  pub is : value_of (take (integer_len text) text) ≡ Some value
  pub pushed : new ≡ old ++ value ∷ []

-- what is left of the line is a row line, and this row, whose values lie in the domains of its stream
pub record IsPlainRow (streams : List Shape) (line : List ℕ) (stream : ℕ) (values : List ℤ) : Type 0 where
  pub kind : kind_of_line (stripped line) ≡ kinds.RowLine
  pub row : row_of streams (stripped line) ≡ Ok (entry stream values)
  pub domains : KeepsDomains streams stream values
