-- How the command ends.
use Rattle.std.proofs.Common.{ℕ, Bool, true, false, if◌then◌else◌, List, ◌++◌, nat_eq, refl}
use Rattle.io_streams.specs.declared.status.Status.{Status}
use Rattle.io_streams.specs.declared.status.Status.TheVariants.{Done, Invalid}
use Rattle.io_streams.specs.Source.{SourceState}
use Rattle.io_streams.specs.Sink.{SinkState}
use Rattle.io_line_reader.proofs.GivenEnds.{took-all}
use Rattle.sql_script.specs.Commands.{ComesTo, CommandEnds}
use Rattle.sql_script.specs.Ending.{EndsWith}
use Rattle.sql_script.proofs.Endings.{HasText, finishes}
use Rattle.cmd_advise.specs.State.{State, status_for}
use Rattle.cmd_advise.specs.Summary.{summary_text}
use Rattle.cmd_advise.specs.Advising.{Advises, outcome_of}
use Rattle.cmd_advise.specs.Reading.{ReadAll}

-- what all lines come to
pub comes : (source now : SourceState) (text : List ℕ) (s : State) → ReadAll source now text s → ComesTo Advises source now (outcome_of text s)
comes source now text s r = record {
  text = r.bytes;
  took = took-all source now r.bytes r.all;
  comes = record { text = text; state = s; come = r.come; is = refl };
  needed = (r.all, r.few);
}

-- the status behind all lines goes with a text
final : (b c : Bool) → HasText (if b then (if c then Done else Invalid) else Invalid)
final true true = tt
final true false = tt
final false c = tt

-- all lines were read, and the text was written
pub ends : (source now : SourceState) (text : List ℕ) (s : State) (status : Status) (before after : SinkState) → ReadAll source now text s → EndsWith (status_for s) (text ++ summary_text s) status before after
    → CommandEnds Advises status source now before after
ends source now text s status before after r e =
    finishes Advises (outcome_of text s) status source now before after (final (nat_eq s.refused 0) (nat_eq s.at_fault 0)) (comes source now text s r) e
