-- What holds of the text of every session.
use Rattle.std.specs.Prelude.{◌≡◌, ℕ, List, [], ◌∷◌, ◌++◌}
use Rattle.sql_text.specs.Lines.{lines}
use Rattle.cmd_session.specs.Answer.{Answer}
use Rattle.cmd_session.specs.State.{empty, after}
use Rattle.cmd_session.specs.Replies.{replies, AreAnswers, IsSessionText}

-- a text has at most one session text
abbrev pub HasOneText : Type 0
HasOneText = (limit : ℕ) → (text : List ℕ) → (written : List ℕ) → (other : List ℕ) → IsSessionText limit text written → IsSessionText limit text other → written ≡ other

-- a text that is cut at a line end is answered piece by piece, each from the state that those before it lead to
abbrev pub AnswersPieceByPiece : Type 0
AnswersPieceByPiece = (limit : ℕ) → (front : List ℕ) → (rest : List ℕ) → (answers : List Answer) → (others : List Answer)
    → AreAnswers (empty limit) (lines (front ++ 10 ∷ [])) answers
    → AreAnswers (after (empty limit) answers) (lines rest) others
    → IsSessionText limit (front ++ 10 ∷ rest) (replies (empty limit) answers ++ replies (after (empty limit) answers) others)
