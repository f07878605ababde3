-- What is printed: the reply to a line, and the text of a session.
use Rattle.std.specs.Prelude.{◌≡◌, ℕ, ◌+◌, List, [], ◌∷◌, ◌++◌, codes, decimal, ⊤, if◌then◌else◌}
use Rattle.std.specs.List.{flat_map}
use Rattle.sql_text.specs.Lines.{lines}
use Rattle.sql_text.specs.Tuple.{tuple_line}
use Rattle.sql_catalog.specs.Streams.{Shape}
use Rattle.sem_query.specs.Meaning.{Arrival}
use Rattle.std.specs.Str.{bytes_eq}
use Rattle.sql_explain.specs.Text.{explain_text}
use Rattle.exec_registry.specs.Live.{LiveQuery, answers_of}
use Rattle.exec_snapshot.specs.Lines.{text_of_lines}
use Rattle.cmd_session.specs.Checkpoint.{checkpoint_lines}
use Rattle.cmd_session.specs.Request.{Request, silent, created, asked, explained, dropped, taken, saved, resumed, based, locked, unlocked, refused}
use Rattle.cmd_session.specs.Answer.{Answer, plain, registered, decided}
use Rattle.sql_replies.specs.Texts.{word_text, plan_text, verdict_text, locked_text, unlocked_text}
use Rattle.cmd_session.specs.State.{State, empty, next_of}
use Rattle.cmd_session.specs.Answers.{IsAnswer}

-- what a live query answers to a row
abbrev pub answers_to : Arrival → LiveQuery → List ℕ
answers_to r live = flat_map (tuple_line live.name) (answers_of r live)

-- how the first live query of this name runs
abbrev pub explained_text : List Shape → List ℕ → List LiveQuery → List ℕ
explained_text streams name [] = []
explained_text streams name (q ∷ queries) = if bytes_eq q.name name then explain_text streams name q.query q.plan else explained_text streams name queries

-- the reply to a line that asks for this, where no verdict is due
abbrev pub reply_by : State → Request → List ℕ
reply_by s silent = []
reply_by s (created name columns) = codes "ok stream " ++ name ++ 10 ∷ []
reply_by s (asked name query shared) = []
reply_by s (explained name) = explained_text s.streams name s.queries
reply_by s (dropped name) = codes "ok drop " ++ name ++ 10 ∷ []
reply_by s (taken stream values) = flat_map (answers_to (record { stream = stream; values = values })) s.queries
reply_by s saved = text_of_lines (checkpoint_lines s)
reply_by s (resumed n) = []
reply_by s (based name base) = []
reply_by s (locked lock) = locked_text
reply_by s unlocked = unlocked_text
reply_by s (refused word) = codes "error " ++ decimal (s.lines + 1) ++ 32 ∷ word_text word ++ 10 ∷ []

-- the reply to a line that comes to this
abbrev pub reply_to : State → Answer → List ℕ
reply_to s (plain request) = reply_by s request
reply_to s (registered name query shared plan) = plan_text name plan
reply_to s (decided name query verdict) = verdict_text s.streams name query verdict

-- the replies to lines that come to these, each asked of the state after those before it
unfoldable pub replies : State → List Answer → List ℕ
replies s [] = []
replies s (answer ∷ others) = reply_to s answer ++ replies (next_of s answer) others

-- the lines come to these, each in the state after those before it
abbrev pub AreAnswers : State → List (List ℕ) → List Answer → Type 0
AreAnswers s [] [] = ⊤
AreAnswers s [] (answer ∷ others) = ⊥
AreAnswers s (line ∷ lines) [] = ⊥
AreAnswers s (line ∷ lines) (answer ∷ others) = IsAnswer s line answer × AreAnswers (next_of s answer) lines others

-- the replies to all lines of a text, from a state on
pub record AreReplies (s : State) (text : List ℕ) (written : List ℕ) : Type 0 where
  pub answers : List Answer
  pub answered : AreAnswers s (lines text) answers
  pub replied : written ≡ replies s answers

-- The text of a session over a text: the replies to all its lines, from the empty state on.
abbrev pub IsSessionText : ℕ → List ℕ → List ℕ → Type 0
IsSessionText limit text written = AreReplies (empty limit) text written
