-- Single bytes of a text.
pub use Rattle.sql_text.specs.Word.{is_digit}
use Rattle.std.specs.Prelude.{ℕ, ◌-◌, Bool, ◌||◌, ◌&&◌, ◌==◌, List, length}
use Rattle.std.specs.List.{slice_index_or}

-- the byte at a place, 0 where there is none
abbrev pub byte_at : List ℕ → ℕ → ℕ
byte_at text place = slice_index_or text place 0

-- the last byte, 0 where there is none
abbrev pub last_byte : List ℕ → ℕ
last_byte text = slice_index_or text (length text - 1) 0

-- a quotation mark: double, single or slanted
abbrev pub is_quote : ℕ → Bool
is_quote b = b == 34 || b == 39 || b == 96

-- a sign of one byte, or the first byte of one of two
abbrev pub is_sign : ℕ → Bool
is_sign b = b == 44 || b == 46 || b == 40 || b == 41 || b == 60 || b == 61 || b == 62 || b == 59

-- a digit, or a plus or minus before one
abbrev pub begins_integer : ℕ → ℕ → Bool
begins_integer first second = is_digit first || ((first == 43 || first == 45) && is_digit second)
