-- The lines that a reader has given, out of the bytes that it has taken.
use Rattle.std.specs.Prelude.{◌≡◌, ◌⊎◌, ℕ, ◌-◌, ◌^◌, ◌<◌, ◌≤◌, true, false, List, [], ◌++◌, length, IfSome}
use Rattle.std.specs.Io.KnownBytes.{Consumes}
use Rattle.io_streams.specs.Source.{SourceState}
use Rattle.sql_text.specs.Lines.{lines}
use Rattle.io_line_reader.specs.Reading.{Reading, TakesAll}
use Rattle.io_line_reader.specs.Texts.{text_of, ended_part}

-- These lines were given or called too long, out of this front of the bytes that were taken, and the rest of them is ahead. The
-- reader was fresh when the source was in the first state.
pub record GivenLines (source now : SourceState) (reader : Reading) (front : List ℕ) (given : List (List ℕ)) : Type 0 where
  pub taken : Consumes source.left now.left (front ++ reader.ahead)
  pub count : reader.taken ≡ length (front ++ reader.ahead)
  pub ahead : length reader.ahead ≤ 4096
  -- what is ahead came by the last read that gave some bytes
  pub recent : length reader.ahead ≤ now.last
  -- and so did the LF of the last line
  pub strict : reader.ended ≡ false → 0 < length given → length reader.ahead < now.last
  -- whatever follows, these are the first lines
  pub cut : (rest : List ℕ) → (reader.ended ≡ true → rest ≡ []) → lines (front ++ rest) ≡ given ++ lines rest
  pub whole : reader.ended ≡ false → front ≡ text_of given
  pub size : length front ≤ length (text_of given)
  pub over : reader.ended ≡ true → (reader.ahead ≡ []) × (reader.taken < 2 ^ 64 - 1) × IfSome source.left (λ bytes. bytes ≡ front)
  pub later : source.faults ≤ now.faults
  pub unfailed : reader.failed ≡ false
  pub numbered : reader.lines ≡ length given
  pub counted : (reader.lines ≤ reader.taken) × (reader.taken < 2 ^ 64)

-- This text is a front of the bytes that were taken, at most 4,096 of which lie beyond it, and the last of its lines is whole. Either it
-- ends in LF, which came by the last read of the source that gave some bytes: fewer lie beyond it than that read gave. Or nothing follows.
pub record TookLines (source now : SourceState) (text : List ℕ) : Type 0 where
  pub ahead : List ℕ
  pub taken : Consumes source.left now.left (text ++ ahead)
  pub near : length ahead ≤ 4096
  pub ended : ((text ≡ text_of (lines text)) × (length ahead < now.last)) ⊎ TakesAll source now text

-- The source was read to its end, and these are the lines of all its bytes, which are fewer than can be counted.
pub record AllGiven (source now : SourceState) (reader : Reading) (text : List ℕ) (given : List (List ℕ)) : Type 0 where
  pub all : TakesAll source now text
  pub few : length text < 2 ^ 64 - 1
  pub are : lines text ≡ given
  pub later : source.faults ≤ now.faults
  pub numbered : reader.lines ≡ length given
  pub room : reader.lines < 2 ^ 64 - 1

-- No more lines come. These are all lines that ended in the bytes that were taken.
pub record LastGiven (source now : SourceState) (reader : Reading) (text : List ℕ) (given : List (List ℕ)) : Type 0 where
  pub taken : Consumes source.left now.left text
  pub count : reader.taken ≡ length text
  pub are : lines (ended_part text) ≡ given
  pub later : source.faults ≤ now.faults
