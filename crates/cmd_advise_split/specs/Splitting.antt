-- What `advise --split` comes to over the lines of a script.
use Rattle.std.specs.Prelude.{◌≡◌, ℕ, None, Some, List}
use Rattle.io_streams.specs.declared.status.Status.{Status}
use Rattle.io_streams.specs.declared.status.Status.TheVariants as status
use Rattle.sql_script.specs.Commands.{Outcome, error_text}
use Rattle.cmd_advise_split.specs.declared.state.Stop.{Stop}
use Rattle.cmd_advise_split.specs.declared.finding.Finding.{Finding}
use Rattle.cmd_advise_split.specs.declared.finding.Finding.TheVariants.{NoStream, Many, Least}
use Rattle.cmd_advise_split.specs.State.{State}
use Rattle.cmd_advise_split.specs.Steps.{ComeTo}
use Rattle.cmd_advise_split.specs.Finding.{IsFinding}
use Rattle.cmd_advise_split.specs.Text.{finding_text}

abbrev pub status_for : Finding → Status
status_for NoStream = status.Done
status_for Many = status.Invalid
status_for (Least told more) = status.Done

-- the first line that is refused
abbrev pub refusal : Stop → Outcome
refusal stop = record { status = status.Invalid; text = error_text stop.line stop.word; needs = None }

-- the text of what is found
abbrev pub outcome_of : State → Finding → Outcome
outcome_of s f = record { status = status_for f; text = finding_text s.streams s.names f; needs = None }

-- What it comes to: the first line that is refused; or what is found for what all lines have made. All are read.
pub data Splits (lines : List (List ℕ)) (o : Outcome) : Type 0 where
  refused : (s : State) → ComeTo lines s → (stop : Stop) → s.stop ≡ Some stop → o ≡ refusal stop → Splits lines o
  found : (s : State) → ComeTo lines s → s.stop ≡ None → (f : Finding) → IsFinding s f → o ≡ outcome_of s f → Splits lines o
