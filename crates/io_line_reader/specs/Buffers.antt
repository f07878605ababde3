-- What a reader keeps true of its buffer.
use Rattle.std.specs.Prelude.{◌≡◌, ℕ, ◌+◌, ◌-◌, ◌^◌, ◌<◌, ◌≤◌, Bool, true, false, List, [], length, slice_index}
use Rattle.io_streams.specs.declared.source.ReadAnswer.{ReadAnswer}
use Rattle.io_streams.specs.declared.source.ReadAnswer.TheVariants.{Got}
use Rattle.io_line_reader.specs.declared.reader.LineAnswer.{LineAnswer}
use Rattle.io_line_reader.specs.declared.reader.LineAnswer.TheVariants.{End}
use Rattle.io_line_reader.specs.Reading.{Reading, answer_to}

-- By the bytes of the buffer and how many they are, the part of them that is ahead, the part that is the last line, the numbers of bytes
-- and lines, and whether the source has ended or failed. Behind what was read stands an LF, and the first LF that is ahead came by the last read.
pub record IsSound (bytes : List ℕ) (size at filled from to taken lines : ℕ) (ended failed : Bool) : Type 0 where
  pub whole : size ≡ 5121
  pub feed : slice_index bytes filled ≡ 10
  pub order : at ≤ filled
  pub inside : filled < size
  pub near : (place : ℕ) → at ≤ place → place < filled → slice_index bytes place ≡ 10 → filled ≤ place + 4096
  pub span : from ≤ to
  pub within : to ≤ size
  pub counted : lines + (filled - at) ≤ taken
  pub last : ended ≡ true → (at ≡ filled) × (taken < 2 ^ 64 - 1)
  pub lost : failed ≡ true → (at ≡ filled) × (taken < 2 ^ 64 - 1) × (ended ≡ false)

-- how many bytes a read gave
abbrev pub read_len : ReadAnswer → ℕ
read_len (Got n) = n
read_len answer = 0

-- what is answered where the source has ended: nothing was begun, or there is a last line
abbrev pub LastAnswer : LineAnswer → Bool → Reading → Reading → Type 0
LastAnswer End long old new = (long ≡ false) × (old.ahead ≡ []) × (new.lines ≡ old.lines)
LastAnswer answer long old new = (answer ≡ answer_to long) × (long ≡ false → 0 < length old.ahead) × (new.lines ≡ old.lines + 1)

-- The source has ended, and what was ahead is given as the last line.
pub record GivesLast (answer : LineAnswer) (long : Bool) (old new : Reading) : Type 0 where
  pub ahead : new.ahead ≡ []
  pub line : new.line ≡ old.ahead
  pub taken : new.taken ≡ old.taken
  pub counted : new.lines ≤ new.taken
  pub over : (new.ended ≡ true) × (new.failed ≡ false)
  pub says : LastAnswer answer long old new
