-- Texts as lines, each with its LF.
use Rattle.std.specs.Prelude.{ℕ, ◌+◌, ◌<◌, ◌≤◌, List, [], ◌∷◌, ◌++◌, length, if◌then◌else◌}
use Rattle.std.specs.List.{flat_map, list_any}
use Rattle.sql_text.specs.Lines.{is_line_feed}

-- the text of these lines, each with its LF
abbrev pub text_of : List (List ℕ) → List ℕ
text_of texts = flat_map (λ line. line ++ 10 ∷ []) texts

-- the longest front of a text that is empty or ends with LF: each byte at which or behind which an LF stands
abbrev pub ended_part : List ℕ → List ℕ
ended_part [] = []
ended_part (b ∷ bytes) = if list_any is_line_feed (b ∷ bytes) then b ∷ ended_part bytes else []

-- Little of a text lies beyond its lines up to one of them: at most 4,096 bytes, and fewer than the last read gave. So that line
-- ended in the last read, or it is the last line, which has no LF.
pub record IsNear (text : List ℕ) (front : List (List ℕ)) (last : ℕ) : Type 0 where
  pub within : length text ≤ length (text_of front) + 4096
  pub recent : length text < length (text_of front) + last
