-- What `advise` comes to over a script, and what a session answers to its lines.
use Rattle.std.specs.Prelude.{◌≡◌, ◌↔◌, ℕ, ◌≤◌, List, All, IsFalse}
use Rattle.std.specs.List.{list_any, count_by}
use Rattle.io_streams.specs.declared.status.Status.{Status}
use Rattle.io_streams.specs.declared.status.Status.TheVariants.{Done}
use Rattle.sql_parser.specs.LineKind.{stripped, kind_of_line}
use Rattle.sql_script.specs.Commands.{Outcome}
use Rattle.cmd_advise.specs.Finding.{is_row_kind}
use Rattle.cmd_advise.specs.Advising.{Advises}
use Rattle.law_resume.specs.Continuing.{IsResumeLine}
use Rattle.law_resume.specs.Restores.{is_refused}
use Rattle.cmd_session.specs.Answer.{Answer}
use Rattle.cmd_session.specs.State.{empty}
use Rattle.cmd_session.specs.Replies.{AreAnswers}

-- how many lines are row lines
abbrev pub row_lines : List (List ℕ) → ℕ
row_lines lines = count_by (λ line. is_row_kind (kind_of_line (stripped line))) lines

-- A status tells whether a session refuses a line: it is Done exactly where no line is answered by a refusal. No line is a RESUME line, and the session may
-- take as many rows as there are row lines.
abbrev pub TellsRefusals : Status → List (List ℕ) → Type 0
TellsRefusals s lines =
    (limit : ℕ) (answers : List Answer) → AreAnswers (empty limit) lines answers → All (λ line. ¬ IsResumeLine line) lines → row_lines lines ≤ limit
    → (s ≡ Done) ↔ IsFalse (list_any is_refused answers)

-- the status to which `advise` comes over a script does
abbrev pub AdviseTellsRefusals : Type 0
AdviseTellsRefusals = (lines : List (List ℕ)) (o : Outcome) → Advises lines o → TellsRefusals o.status lines
