-- What is wrong with a row.
use Rattle.std.specs.Prelude.{◌≡◌, ℕ, suc, ◌<◌, ℤ, Bool, true, not, List, [], ◌∷◌, length, if◌then◌else◌, is_some, unwrap_or, pos, Option, Some, None, Err, Ok}
use Rattle.sql_text.specs.Blank.{trimmed}
use Rattle.sql_text.specs.Word as front
use Rattle.sql_text.specs.Key.{key_of}
use Rattle.sql_text.specs.Value.{value_of}
use Rattle.sql_catalog.specs.declared.column.ColumnDef.{ColumnDef}
use Rattle.sql_catalog.specs.declared.row_error.RowError.{RowError}
use Rattle.sql_catalog.specs.Streams.{Shape, stream_number, shape_at, lies_within}
use Rattle.sql_catalog.specs.Rows.{Entry, fields_of, row_with, row_of}
use Rattle.sql_replies.specs.Words.{row_refusal}
use Rattle.adv_diagnosis.specs.declared.fault.Fault.{Fault}
use Rattle.adv_diagnosis.specs.declared.fault.Fault.TheVariants.{RowKey, RowName, RowStream, Arity, Value, Domain}
use Rattle.adv_diagnosis.specs.FaultWords.{word_of}

-- whether a field without the blanks at its ends is no integer of 64 bits
abbrev pub is_no_value : List ℕ → Bool
is_no_value field = not (is_some (value_of (trimmed field)))

-- the place of the first field that is no integer of 64 bits, where the first field stands at this place
abbrev pub no_value_from : ℕ → List (List ℕ) → Option ℕ
no_value_from place [] = None
no_value_from place (f ∷ fields) = if is_no_value f then Some place else no_value_from (suc place) fields

-- whether an integer lies outside a domain, where there is one
abbrev pub lies_outside : Option (ℤ × ℤ) → ℤ → Bool
lies_outside domain z = not (lies_within domain z)

-- whether the value of a field, 0 where it has none, lies outside the domain of a column
abbrev pub is_outside : ColumnDef → List ℕ → Bool
is_outside column field = lies_outside column.domain (unwrap_or (value_of (trimmed field)) (pos 0))

-- the place of the first field whose value lies outside the domain of its column, where the first field stands at this place
abbrev pub outside_from : ℕ → List ColumnDef → List (List ℕ) → Option ℕ
outside_from place [] fields = None
outside_from place (c ∷ columns) [] = None
outside_from place (c ∷ columns) (f ∷ fields) = if is_outside c f then Some place else outside_from (suc place) columns fields

-- the columns of a stream
abbrev pub columns_at : List Shape → ℕ → List ColumnDef
columns_at streams stream = (shape_at streams stream).columns

-- what a fault says of the fields of a row of a stream
abbrev pub IsOfFields : List Shape → ℕ → List (List ℕ) → Fault → Type 0
IsOfFields streams stream fields (Arity number wanted found) = (number ≡ stream) × (wanted ≡ length (columns_at streams stream)) × (found ≡ length fields)
IsOfFields streams stream fields (Value field) = no_value_from 0 fields ≡ Some field
IsOfFields streams stream fields (Domain number field) = (number ≡ stream) × (outside_from 0 (columns_at streams stream) fields ≡ Some field)
IsOfFields streams stream fields _ = ⊥

-- it is said of the fields of a row line, which begins with the name of a stream
abbrev pub IsOfNamed : List Shape → List ℕ → Fault → Type 0
IsOfNamed streams line fault = (stream : ℕ) × (stream_number streams (front.word_of line) ≡ Some stream) × IsOfFields streams stream (fields_of line) fault

-- what a fault says of a row line
abbrev pub IsOfRow : List Shape → List ℕ → Fault → Type 0
IsOfRow streams line RowKey = is_some (key_of (front.word_of line)) ≡ true
IsOfRow streams line (RowName bytes) = (length (front.word_of line) ≡ bytes) × (24 < bytes)
IsOfRow streams line RowStream = stream_number streams (front.word_of line) ≡ None
IsOfRow streams line fault = IsOfNamed streams line fault

-- fields are no row of a stream: the fault has the word of the first cause, and what it says is so
pub record HasFieldsFault (streams : List Shape) (stream : ℕ) (fields : List (List ℕ)) (fault : Fault) : Type 0 where
  pub error : RowError
  pub refused : row_with stream (columns_at streams stream) fields ≡ Err error
  pub word : row_refusal error ≡ word_of fault
  pub fact : IsOfFields streams stream fields fault

-- the fault of fields, or none where they are a row of the stream
abbrev pub IsFieldsFault : List Shape → ℕ → List (List ℕ) → Option Fault → Type 0
IsFieldsFault streams stream fields None = (entry : Entry) × (row_with stream (columns_at streams stream) fields ≡ Ok entry)
IsFieldsFault streams stream fields (Some fault) = HasFieldsFault streams stream fields fault

-- a row line is no row: the fault has the word of the first cause, and what it says is so
pub record HasRowFault (streams : List Shape) (line : List ℕ) (fault : Fault) : Type 0 where
  pub error : RowError
  pub refused : row_of streams line ≡ Err error
  pub word : row_refusal error ≡ word_of fault
  pub fact : IsOfRow streams line fault

-- the fault of a row line, or none where it is a row
abbrev pub IsRowFault : List Shape → List ℕ → Option Fault → Type 0
IsRowFault streams line None = (entry : Entry) × (row_of streams line ≡ Ok entry)
IsRowFault streams line (Some fault) = HasRowFault streams line fault
