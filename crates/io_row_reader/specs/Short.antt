-- Integers of few digits at a place of a text.
use Rattle.std.specs.Prelude.{◌≡◌, ℕ, ◌+◌, ◌-◌, ◌^◌, ◌<◌, ◌≤◌, List, length, take, drop, slice_index}
use Rattle.std.specs.List.{prefix_len}
use Rattle.sql_text.specs.Value.{amount}
use Rattle.sql_text.specs.Word.{is_digit}

-- 1 to 8 digits stand at a place of a text, with a byte behind them, and write this amount
pub record IsShort (text : List ℕ) (start digits kept : ℕ) : Type 0 where
  pub run : digits ≡ prefix_len is_digit (drop start text)
  pub some : 0 < digits
  pub few : digits ≤ 8
  pub within : start + digits < length text
  pub writes : kept ≡ amount (take digits (drop start text))
  pub small : kept < 10 ^ 18

-- two such integers stand there with a comma between them, of these amounts, the first of so many digits, and both with the comma of so many bytes
pub record ArePair (text : List ℕ) (start comma len first second : ℕ) : Type 0 where
  pub left : IsShort text start comma first
  pub separated : slice_index text (start + comma) ≡ 44
  pub order : comma + 1 < len
  pub right : IsShort text (start + comma + 1) (len - (comma + 1)) second
