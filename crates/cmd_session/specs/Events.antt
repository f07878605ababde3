-- What happens in the turns of sources, which are numbered.
use Rattle.std.specs.Prelude.{ℕ, ◌+◌, ◌<◌, ◌≤◌, ◌⊎◌, nat_eq, List, [], ◌∷◌, ◌++◌, length, codes, decimal, if◌then◌else◌}
use Rattle.io_line_reader.specs.Texts.{text_of}

-- a line of the source of this number reaches the session, or that source has failed
pub data Event : Type 0 where
  line : ℕ → List ℕ → Event
  fault : ℕ → Event

-- the line that says that a source has failed
abbrev pub fault_text : ℕ → List ℕ
fault_text number = codes "feed " ++ decimal number ++ codes " fault" ++ 10 ∷ []

-- the lines of the source of this number among these events
abbrev pub lines_of : ℕ → List Event → List (List ℕ)
lines_of number [] = []
lines_of number (line other text ∷ events) = if nat_eq other number then text ∷ lines_of number events else lines_of number events
lines_of number (fault other ∷ events) = lines_of number events

-- Little of a text lies beyond these lines of it, each with its LF: at most 4,096 bytes, and fewer than the last read gave, where anything does. So the
-- source was not read behind them, and each line that ended before that read is among them.
pub record IsClose (text : List ℕ) (front : List (List ℕ)) (last : ℕ) : Type 0 where
  pub within : length text ≤ length (text_of front) + 4096
  pub recent : (length text ≤ length (text_of front)) ⊎ (length text < length (text_of front) + last)
