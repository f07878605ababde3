-- Replies as lines, and how lines in which replies are joined come apart.
use Rattle.std.specs.Prelude.{◌≡◌, ℕ, ◌≤◌, ◌^◌, ◌==◌, ◌&&◌, Bool, true, not, List, [], ◌∷◌, map, if◌then◌else◌}
use Rattle.std.specs.List.{AllByRecursion, list_all}
use Rattle.sql_text.specs.Lines.{lines}
use Rattle.exec_snapshot.specs.Lines.{text_of_lines}
use Rattle.cmd_session.specs.Answer.{Answer}
use Rattle.cmd_session.specs.Answers.{IsAnswer}
use Rattle.cmd_session.specs.Replies.{AreAnswers, replies, reply_to}
use Rattle.cmd_session.specs.State.{State, empty}
use Rattle.law_resume.specs.Reached.{IsReached}
use Rattle.cmd_each.specs.Each.{formed}
use Rattle.cmd_each.specs.OneLine.{joined}

-- a byte that may stand in a line of a reply
abbrev pub is_inner : ℕ → Bool
is_inner b = not (b == 10) && not (b == 59)

-- a line of a reply is not empty, and has neither LF nor `;`
abbrev pub IsReplyLine : List ℕ → Type 0
IsReplyLine [] = ⊥
IsReplyLine (b ∷ bytes) = list_all is_inner (b ∷ bytes) ≡ true

-- a text is such lines, each with an LF behind it
pub record IsLines (text : List ℕ) : Type 0 where
  pub parts : List (List ℕ)
  pub are : AllByRecursion IsReplyLine parts
  pub whole : text ≡ text_of_lines parts

-- so is the reply to each line, in each state that lines lead to
abbrev pub RepliesAreLines : Type 0
RepliesAreLines = (limit : ℕ) → limit ≤ 2 ^ 40 → (s : State) → IsReached limit s → (line : List ℕ) (answer : Answer) → IsAnswer s line answer → IsLines (reply_to s answer)

-- a text with LF in place of each `;`
abbrev pub apart : List ℕ → List ℕ
apart text = map (λ b. if b == 59 then 10 else b) text

-- the lines that are not empty
abbrev pub without_empty : List (List ℕ) → List (List ℕ)
without_empty [] = []
without_empty ([] ∷ others) = without_empty others
without_empty ((b ∷ bytes) ∷ others) = (b ∷ bytes) ∷ without_empty others

-- the joined replies to all lines of a text, taken apart, are its session text
abbrev pub EachComesApart : Type 0
EachComesApart =
    (limit : ℕ) → limit ≤ 2 ^ 40 → (text : List ℕ) (answers : List Answer) → AreAnswers (empty limit) (lines text) answers
    → text_of_lines (without_empty (lines (apart (formed joined (empty limit) answers)))) ≡ replies (empty limit) answers
