-- The session text of a text without EXPLAIN, CHECKPOINT and RESUME.
use Rattle.std.specs.Prelude.{◌≡◌, ℕ, ◌+◌, Bool, true, false, List, [], ◌∷◌, ◌++◌, codes, decimal, IsTrue, All}
use Rattle.sql_text.specs.Lines.{lines}
use Rattle.sql_parser.specs.declared.tree.Statement.{Statement}
use Rattle.sql_parser.specs.declared.tree.Statement.TheVariants as statements
use Rattle.sql_parser.specs.LineKind.{stripped}
use Rattle.sql_parser.specs.Syntax.{IsStatement}
use Rattle.sql_replies.specs.Texts.{word_text, plan_text, verdict_text, locked_text, unlocked_text}
use Rattle.law_resume.specs.Continuing.{IsResumeLine}
use Rattle.cmd_session.specs.Request.{silent, created, asked, explained, dropped, taken, saved, resumed, based, locked, unlocked, refused}
use Rattle.cmd_session.specs.Answer.{Answer, plain, registered, decided}
use Rattle.cmd_session.specs.State.{State, empty, next_of}
use Rattle.cmd_session.specs.Replies.{AreAnswers, IsSessionText}
use Rattle.law_plain_texts.specs.Rows.{new_lines}

-- whether a statement asks what is kept
abbrev pub is_look : Statement → Bool
is_look (statements.CreateStream name columns) = false
is_look (statements.CreateQuery name select shared) = false
is_look (statements.Explain name) = true
is_look (statements.DropQuery name) = false
is_look statements.Checkpoint = true
is_look (statements.ResumeRows rows) = false
is_look (statements.ResumeGiven name rows) = false
is_look (statements.ResumeCell name index content) = false
is_look (statements.ResumeTuple name values) = false
is_look (statements.Lock key streams) = false
is_look (statements.Unlock key) = false

-- the line is an EXPLAIN or a CHECKPOINT line
pub record IsLookLine (line : List ℕ) : Type 0 where
  pub statement : Statement
  pub spells : IsStatement (stripped line) statement
  pub looks : IsTrue (is_look statement)

-- the reply to a line that comes to this, where none asks what is kept or sets it
abbrev pub RepliesPlainly : State → Answer → List ℕ → Type 0
RepliesPlainly s (plain silent) reply = reply ≡ []
RepliesPlainly s (plain (created name columns)) reply = reply ≡ codes "ok stream " ++ name ++ 10 ∷ []
RepliesPlainly s (plain (asked name query shared)) reply = ⊥
RepliesPlainly s (plain (explained name)) reply = ⊥
RepliesPlainly s (plain (dropped name)) reply = reply ≡ codes "ok drop " ++ name ++ 10 ∷ []
RepliesPlainly s (plain (taken stream values)) reply = reply ≡ new_lines (record { stream = stream; values = values }) s.queries
RepliesPlainly s (plain saved) reply = ⊥
RepliesPlainly s (plain (resumed n)) reply = ⊥
RepliesPlainly s (plain (based name base)) reply = ⊥
RepliesPlainly s (plain (locked lock)) reply = reply ≡ locked_text
RepliesPlainly s (plain unlocked) reply = reply ≡ unlocked_text
RepliesPlainly s (plain (refused word)) reply = reply ≡ codes "error " ++ decimal (s.lines + 1) ++ 32 ∷ word_text word ++ 10 ∷ []
RepliesPlainly s (registered name query shared plan) reply = reply ≡ plan_text name plan
RepliesPlainly s (decided name query verdict) reply = reply ≡ verdict_text s.streams name query verdict

-- the replies to lines that come to these, one after another, each from the state after those before it
abbrev pub AreRepliedPlainly : State → List Answer → List ℕ → Type 0
AreRepliedPlainly s [] written = written ≡ []
AreRepliedPlainly s (answer ∷ others) written =
    (reply : List ℕ) × (rest : List ℕ) × (written ≡ reply ++ rest) × RepliesPlainly s answer reply × AreRepliedPlainly (next_of s answer) others rest

-- the lines of a text come to answers, and these are the replies
pub record IsPlainText (limit : ℕ) (text written : List ℕ) : Type 0 where
  pub answers : List Answer
  pub answered : AreAnswers (empty limit) (lines text) answers
  pub replied : AreRepliedPlainly (empty limit) answers written

-- the session text of a text of which no line is an EXPLAIN, CHECKPOINT or RESUME line is its plain text
abbrev pub TextsArePlain : Type 0
TextsArePlain =
    (limit : ℕ) (text written : List ℕ) → IsSessionText limit text written → All (λ line. ¬ IsResumeLine line) (lines text) → All (λ line. ¬ IsLookLine line) (lines text)
    → IsPlainText limit text written
