-- From states that are alike, lines are answered alike.
use Rattle.std.specs.Prelude.{◌≡◌, ℕ, Bool, true, false, List, [], ◌∷◌, ◌++◌, codes, ⊤, IsTrue}
use Rattle.sql_parser.specs.declared.tree.Statement.{Statement}
use Rattle.sql_parser.specs.declared.tree.Statement.TheVariants as statements
use Rattle.sql_parser.specs.LineKind.{stripped}
use Rattle.sql_parser.specs.Syntax.{IsStatement}
use Rattle.cmd_session.specs.Request.{Request, silent, created, asked, explained, dropped, taken, saved, resumed, based, locked, unlocked, refused}
use Rattle.cmd_session.specs.Answer.{Answer, plain, registered, decided}
use Rattle.cmd_session.specs.State.{State, initial, next_of, after}
use Rattle.cmd_session.specs.Replies.{reply_by, reply_to, AreAnswers}
use Rattle.sql_replies.specs.Texts.{word_text}
use Rattle.cmd_session.specs.Restoring.{AreAlike}
use Rattle.law_resume.specs.Sound.{IsSoundState}

-- whether a statement sets what a live query goes on from, or how many rows were taken
abbrev pub is_resume : Statement → Bool
is_resume (statements.CreateStream name columns) = false
is_resume (statements.CreateQuery name select shared) = false
is_resume (statements.Explain name) = false
is_resume (statements.DropQuery name) = false
is_resume statements.Checkpoint = false
is_resume (statements.ResumeRows rows) = true
is_resume (statements.ResumeGiven name rows) = true
is_resume (statements.ResumeCell name index content) = true
is_resume (statements.ResumeTuple name values) = true
is_resume (statements.Lock key streams) = false
is_resume (statements.Unlock key) = false

-- the line is a RESUME line
pub record IsResumeLine (line : List ℕ) : Type 0 where
  pub statement : Statement
  pub spells : IsStatement (stripped line) statement
  pub resumes : IsTrue (is_resume statement)

-- whether a row is taken
abbrev pub takes_row : Answer → Bool
takes_row (plain silent) = false
takes_row (plain (created name columns)) = false
takes_row (plain (asked name query shared)) = false
takes_row (plain (explained name)) = false
takes_row (plain (dropped name)) = false
takes_row (plain (taken stream values)) = true
takes_row (plain saved) = false
takes_row (plain (resumed n)) = false
takes_row (plain (based name base)) = false
takes_row (plain (locked lock)) = false
takes_row (plain unlocked) = false
takes_row (plain (refused word)) = false
takes_row (registered name query shared plan) = false
takes_row (decided name query verdict) = false

-- none of the lines up to the first that is a taken row is a RESUME line
abbrev pub NoneResumesBeforeRows : List (List ℕ) → List Answer → Type 0
NoneResumesBeforeRows [] answers = ⊤
NoneResumesBeforeRows (line ∷ lines) [] = ⊤
NoneResumesBeforeRows (line ∷ lines) (answer ∷ others) = (IsResumeLine line → ⊥) × (takes_row answer ≡ false → NoneResumesBeforeRows lines others)

-- the reply to a line that asks for this, where a refusal does not say which line it is
abbrev pub unnumbered_by : State → Request → List ℕ
unnumbered_by s silent = reply_by s silent
unnumbered_by s (created name columns) = reply_by s (created name columns)
unnumbered_by s (asked name query shared) = reply_by s (asked name query shared)
unnumbered_by s (explained name) = reply_by s (explained name)
unnumbered_by s (dropped name) = reply_by s (dropped name)
unnumbered_by s (taken stream values) = reply_by s (taken stream values)
unnumbered_by s saved = reply_by s saved
unnumbered_by s (resumed n) = reply_by s (resumed n)
unnumbered_by s (based name base) = reply_by s (based name base)
unnumbered_by s (locked lock) = reply_by s (locked lock)
unnumbered_by s unlocked = reply_by s unlocked
unnumbered_by s (refused word) = codes "error " ++ word_text word ++ 10 ∷ []

-- the reply to a line that comes to this, where a refusal does not say which line it is
abbrev pub unnumbered_reply : State → Answer → List ℕ
unnumbered_reply s (plain request) = unnumbered_by s request
unnumbered_reply s (registered name query shared plan) = reply_to s (registered name query shared plan)
unnumbered_reply s (decided name query verdict) = reply_to s (decided name query verdict)

-- such replies to lines that come to these, one after another
unfoldable pub unnumbered_replies : State → List Answer → List (List ℕ)
unnumbered_replies s [] = []
unnumbered_replies s (answer ∷ others) = unnumbered_reply s answer ∷ unnumbered_replies (next_of s answer) others

-- Lines that are given to both states come to the same answers, with the same replies but for the numbers of refused lines, and lead to
-- states that are alike: RESUME lines before the first taken row aside.
abbrev pub GoOnAlike : State → State → Type 0
GoOnAlike s t =
    (lines : List (List ℕ)) (answers : List Answer) → NoneResumesBeforeRows lines answers → AreAnswers s lines answers
    → AreAnswers t lines answers × (unnumbered_replies s answers ≡ unnumbered_replies t answers) × AreAlike (after s answers) (after t answers)

-- states that are alike go on alike
abbrev pub ContinuesAlike : Type 0
ContinuesAlike = (s t : State) → IsSoundState s → IsSoundState t → AreAlike s t → GoOnAlike s t

-- lines lead from the first state to this one, and no row was taken
pub record IsResumed (t : State) : Type 0 where
  pub limit : ℕ
  pub pages : ℕ
  pub lines : List (List ℕ)
  pub answers : List Answer
  pub answered : AreAnswers (initial limit pages) lines answers
  pub is : after (initial limit pages) answers ≡ t
  pub quiet : t.began ≡ false

-- a sound state, and such a one that is alike, as that to which the lines of its checkpoint lead, go on alike, and the other way round
abbrev pub ResumedContinuesAlike : Type 0
ResumedContinuesAlike = (s t : State) → IsSoundState s → IsResumed t → AreAlike t s → GoOnAlike s t × GoOnAlike t s
