-- Rows that are read from a text with more behind them.
use Rattle.std.specs.Prelude.{◌≡◌, ◌⊎◌, ℕ, ℤ, ◌+◌, ◌-◌, ◌*◌, ◌<◌, ◌≤◌, List, ◌++◌, length, take, drop, slice_index, Some}
use Rattle.std.specs.Option.{option_map}
use Rattle.std.specs.List.{slice_range, slice_split}
use Rattle.io_line_reader.specs.Reading.{IsFirstFeed}
use Rattle.sql_catalog.specs.Rows.{HasStream, is_comma, values_of}
use Rattle.sql_catalog.specs.Streams.{Shape}
use Rattle.io_row_reader.specs.Plain.{AddsInteger, IsPlain, IsPlainRow}

-- the last byte of a text is LF
abbrev pub IsEnded : List ℕ → Type 0
IsEnded text = slice_index text (length text - 1) ≡ 10

-- a text begins with the name of this stream and a comma, and what stands behind that comma begins at this place
pub record BeginsStream (streams : List Shape) (text : List ℕ) (stream start : ℕ) : Type 0 where
  pub known : stream < length streams
  pub near : start ≤ 25
  pub within : start < length text
  pub begins : HasStream streams text stream (drop start text)

-- an integer of at most 24 bytes stands between two places of a text, and its value is added to a row
pub record AddsAt (text : List ℕ) (start end : ℕ) (old new : List ℤ) : Type 0 where
  pub len : ℕ
  pub size : end ≡ start + len
  pub some : 0 < len
  pub near : len ≤ 24
  pub within : end < length text
  pub adds : AddsInteger (drop start text) len old new

-- integers of at most 24 bytes with a comma between each and the next stand between two places of a text, and these are their values
pub record AreFields (text : List ℕ) (start end : ℕ) (row : List ℤ) : Type 0 where
  pub values : values_of (slice_split is_comma (slice_range text start end)) ≡ Some row
  pub count : length (slice_split is_comma (slice_range text start end)) ≡ length row
  pub plain : IsPlain (slice_range text start end)
  pub order : start ≤ end
  pub near : end ≤ start + 25 * length row
  pub within : end < length text

-- of the integers and commas of a text these are the values, whatever stands behind them
pub record ReadsFront (front : List ℕ) (row : List ℤ) : Type 0 where
  pub told : (rest : List ℕ) → values_of (slice_split is_comma (front ++ rest)) ≡ option_map (λ vs. row ++ vs) (values_of (slice_split is_comma rest))
  pub count : (rest : List ℕ) → length row + length (slice_split is_comma rest) ≡ length (slice_split is_comma (front ++ rest))
  pub plain : IsPlain front

-- integers of at most 24 bytes, each with a comma behind it, stand between two places of a text, and these are their values
pub record FieldsTo (text : List ℕ) (start place : ℕ) (row : List ℤ) : Type 0 where
  pub front : ReadsFront (slice_range text start place) row
  pub order : start ≤ place
  pub within : place < length text
  pub near : place ≤ start + 25 * length row

-- a line of this length ends at a place of a text, with an LF or with CR and LF
pub record EndsLine (text : List ℕ) (place len : ℕ) : Type 0 where
  pub within : len < length text
  pub feed : slice_index text len ≡ 10
  pub return : (len ≡ place) ⊎ ((len ≡ place + 1) × (slice_index text place ≡ 13))

-- the first line of a text has this length, at most 1,024, its LF is not the last byte, and the line is this row
pub record IsRowAhead (streams : List Shape) (text : List ℕ) (stream len : ℕ) (values : List ℤ) : Type 0 where
  pub feed : IsFirstFeed text len
  pub before : len + 1 < length text
  pub short : len ≤ 1024
  pub row : IsPlainRow streams (take len text) stream values
