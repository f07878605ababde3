-- How the command ends.
use Rattle.std.proofs.Common.{◌≡◌, refl, sym, subst, Some, None}
use Rattle.io_streams.specs.declared.status.Status.{Status}
use Rattle.io_streams.specs.Source.{SourceState}
use Rattle.io_streams.specs.Sink.{SinkState}
use Rattle.io_line_reader.proofs.GivenEnds.{took-all}
use Rattle.sql_script.specs.Commands.{ComesTo, CommandEnds}
use Rattle.sql_script.specs.declared.end.ScriptEnd.{ScriptEnd}
use Rattle.sql_script.specs.declared.end.ScriptEnd.TheVariants.{Refused}
use Rattle.sql_script.specs.Ending.{EndsWith, StopsAt}
use Rattle.sql_script.proofs.Endings.{HasText, finishes}
use Rattle.cmd_advise_split.specs.declared.state.Stop.{Stop}
use Rattle.cmd_advise_split.specs.declared.finding.Finding.{Finding}
use Rattle.cmd_advise_split.specs.declared.finding.Finding.TheVariants.{NoStream, Many, Least}
use Rattle.cmd_advise_split.specs.declared.finding.Found.{Found}
use Rattle.cmd_advise_split.specs.State.{State}
use Rattle.cmd_advise_split.specs.Text.{finding_text}
use Rattle.cmd_advise_split.specs.Splitting.{Splits, refused, found, status_for, outcome_of}
use Rattle.cmd_advise_split.specs.Reading.{ReadAll, ReadFound}

-- a line is refused
pub stops-at : (s : State) (stop : Stop) (end : ScriptEnd) → end ≡ Refused stop.line stop.word → Some stop ≡ s.stop → (source now : SourceState) → ReadAll source now s → StopsAt Splits end source now
stops-at s stop end e f source now r = subst (λ (z : ScriptEnd). StopsAt Splits z source now) (sym e) (record {
  needs = None;
  comes = record {
    text = r.bytes;
    took = took-all source now r.bytes r.all;
    comes = refused s r.come stop (sym f) refl;
    needed = (r.all, r.few);
  };
})

-- what is found
pub comes : (source now : SourceState) (f : Found) → ReadFound source now f → ComesTo Splits source now (outcome_of f.state f.finding)
comes source now f r = record {
  text = r.read.bytes;
  took = took-all source now r.read.bytes r.read.all;
  comes = found f.state r.read.come r.sound f.finding r.is refl;
  needed = (r.read.all, r.read.few);
}

-- the status goes with a text
final : (f : Finding) → HasText (status_for f)
final NoStream = tt
final Many = tt
final (Least told more) = tt

-- all lines were read, and the text was written
pub ends : (source now : SourceState) (f : Found) (status : Status) (before after : SinkState) → ReadFound source now f
    → EndsWith (status_for f.finding) (finding_text f.state.streams f.state.names f.finding) status before after → CommandEnds Splits status source now before after
ends source now f status before after r e = finishes Splits (outcome_of f.state f.finding) status source now before after (final f.finding) (comes source now f r) e
