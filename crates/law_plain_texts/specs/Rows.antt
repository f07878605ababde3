-- What becomes of a row where no query goes on from a checkpoint.
use Rattle.std.specs.Prelude.{◌≡◌, ℕ, ℤ, List, All}
use Rattle.std.specs.List.{flat_map}
use Rattle.sql_text.specs.Tuple.{tuple_line}
use Rattle.sem_query.specs.Meaning.{Arrival, new_answers}
use Rattle.exec_registry.specs.Live.{LiveQuery}
use Rattle.law_resume.specs.Continuing.{IsResumeLine}
use Rattle.cmd_session.specs.Request.{taken}
use Rattle.cmd_session.specs.Answer.{Answer, plain}
use Rattle.cmd_session.specs.State.{initial, after}
use Rattle.cmd_session.specs.Replies.{AreAnswers, reply_to}

-- what live queries answer to a row: query by query in order of creation, a line for each new answer over all rows since it was created
abbrev pub new_lines : Arrival → List LiveQuery → List ℕ
new_lines r queries = flat_map (λ live. flat_map (tuple_line live.name) (new_answers live.query live.history r)) queries

-- the reply to a row that is taken behind lines of which none is a RESUME line
abbrev pub RowsAreAnswered : Type 0
RowsAreAnswered =
    (limit pages : ℕ) (front : List (List ℕ)) (answers : List Answer) → AreAnswers (initial limit pages) front answers → All (λ line. ¬ IsResumeLine line) front
    → (stream : ℕ) (values : List ℤ)
    → reply_to (after (initial limit pages) answers) (plain (taken stream values)) ≡ new_lines (record { stream = stream; values = values }) (after (initial limit pages) answers).queries
