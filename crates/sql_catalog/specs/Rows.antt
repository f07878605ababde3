-- The rows of streams, as lines.
use Rattle.std.specs.Prelude.{◌≡◌, ℕ, ℤ, Bool, true, false, ◌&&◌, ◌==◌, if◌then◌else◌, List, [], ◌∷◌, ◌++◌, length, drop, nat_lt, is_some}
use Rattle.std.specs.List.{list_all, slice_split}
use Rattle.std.specs.Option.{option_and_then, option_map}
use Rattle.std.specs.declared.option.Option.{Option}
use Rattle.std.specs.declared.option.Option.TheVariants.{None, Some}
use Rattle.std.specs.declared.result.Result.{Result}
use Rattle.std.specs.declared.result.Result.TheVariants.{Ok, Err}
use Rattle.std.specs.Str.{bytes_eq}
use Rattle.sql_text.specs.Blank.{is_blank, without_blanks_before, trimmed}
use Rattle.sql_text.specs.Word.{is_word, begins_word, word_of, behind_word}
use Rattle.sql_text.specs.Key.{key_of}
use Rattle.sql_text.specs.Value.{value_of}
use Rattle.sql_catalog.specs.Streams.{Shape, IsName, stream_number, shape_at, lie_within}
use Rattle.sql_catalog.specs.declared.column.ColumnDef.{ColumnDef}
use Rattle.sql_catalog.specs.declared.row_error.RowError.{RowError}
use Rattle.sql_catalog.specs.declared.row_error.RowError.TheVariants.{Syntax, Limit, UnknownStream, Arity, Value, Domain}

-- a comma
abbrev pub is_comma : ℕ → Bool
is_comma b = b == 44

-- whether a comma stands here
abbrev pub begins_comma : List ℕ → Bool
begins_comma [] = false
begins_comma (b ∷ bs) = is_comma b

-- one word, blanks or none, and then a comma
abbrev pub is_row_line : List ℕ → Bool
is_row_line line = begins_word line && begins_comma (without_blanks_before (behind_word line))

-- the same, said by the parts of the line
abbrev pub IsRowText : List ℕ → Type 0
IsRowText line = (word : List ℕ) × (blanks : List ℕ) × (rest : List ℕ) × (line ≡ word ++ (blanks ++ 44 ∷ rest)) × (is_word word ≡ true) × (list_all is_blank blanks ≡ true)

-- whether a text begins with this name as its word, and a comma behind it
abbrev pub is_named : List ℕ → List ℕ → Bool
is_named name text = begins_comma (behind_word text) && bytes_eq name (word_of text)

-- the word of a text is this name, and behind it stand a comma and this text of fields
pub record IsNamed (name text fields : List ℕ) : Type 0 where
  pub known : IsName name
  pub word : name ≡ word_of text
  pub behind : behind_word text ≡ 44 ∷ fields

-- a text begins with the name of this stream, and behind it stand a comma and this text of fields
pub record HasStream (streams : List Shape) (text : List ℕ) (stream : ℕ) (fields : List ℕ) : Type 0 where
  pub known : IsName (word_of text)
  pub number : stream_number streams (word_of text) ≡ Some stream
  pub behind : behind_word text ≡ 44 ∷ fields

-- the fields of a row: the parts between its commas, but for the first part, which has its stream's name
abbrev pub fields_of : List ℕ → List (List ℕ)
fields_of line = drop 1 (slice_split is_comma line)

-- the integers that the fields are without blanks at their ends, where each is one
abbrev pub values_of : List (List ℕ) → Option (List ℤ)
values_of [] = Some []
values_of (field ∷ fields) = option_and_then (λ v. option_map (λ vs. v ∷ vs) (values_of fields)) (value_of (trimmed field))

-- a row of a stream: the number of the stream, and a value for each column
pub record Entry : Type 0 where
  pub stream : ℕ
  pub values : List ℤ

-- the row of this stream with these values
abbrev pub entry : ℕ → List ℤ → Entry
entry stream values = record { stream = stream; values = values }

-- the row of this stream, where each field is a value and lies in the domain of its column; a field that is no value is told first
abbrev pub entry_of : ℕ → List ColumnDef → Option (List ℤ) → Result Entry RowError
entry_of stream columns None = Err Value
entry_of stream columns (Some values) = if lie_within columns values then Ok (entry stream values) else Err Domain

-- the row of this stream that the fields are, one for each of its columns; a wrong number of fields is told before what is wrong with one
abbrev pub row_with : ℕ → List ColumnDef → List (List ℕ) → Result Entry RowError
row_with stream columns fields = if length fields == length columns then entry_of stream columns (values_of fields) else Err Arity

-- the row of the stream that was found
abbrev pub row_for : List Shape → List (List ℕ) → Option ℕ → Result Entry RowError
row_for streams fields None = Err UnknownStream
row_for streams fields (Some stream) = row_with stream (shape_at streams stream).columns fields

-- the row that a line is, or the first reason to refuse it
unfoldable pub row_of : List Shape → List ℕ → Result Entry RowError
row_of streams line =
    if is_some (key_of (word_of line)) then Err Syntax else
    (if nat_lt 24 (length (word_of line)) then Err Limit else
    row_for streams (fields_of line) (stream_number streams (word_of line)))
