-- What a session comes to that ends with Done, by how the program ends.
use Rattle.std.proofs.Common.{◌≡◌, ℕ, Bool, true, false, List, [], String, refl, sym, subst}
use Rattle.std.specs.Io.KnownBytes.{Appends}
use Rattle.std.specs.declared.alloc.Global.{Global}
use Rattle.io_streams.specs.declared.status.Status.{Status}
use Rattle.io_streams.specs.declared.status.Status.TheVariants as status
use Rattle.io_streams.specs.Source.{SourceState}
use Rattle.io_streams.specs.Sink.{SinkState}
use Rattle.cmd_session.specs.State.{State, empty}
use Rattle.cmd_session.specs.Run.{TookAll, WroteText}
use Rattle.cmd_session.specs.declared.run.Ending.TheVariants as endings
use Rattle.cmd_each.specs.OneLine.{joined}
use Rattle.cmd_each.specs.Run.{WroteFormed}
use Rattle.law_plain_texts.proofs.PlainTexts.{texts-are-plain}
use Rattle.cmd_dispatch.specs.declared.command.Command.{Command}
use Rattle.cmd_dispatch.specs.declared.command.Command.TheVariants.{Run}
use Rattle.cmd_dispatch.specs.Commands.{Asks, names_file}
use Rattle.cmd_dispatch.specs.Behind.{whole, WroteAs, EndsBehindFile}
use Rattle.cmd_dispatch.specs.Run.{InputSessionEnds}
use Rattle.cmd_dispatch.specs.Ends.{EndsOn, RunsTo}
use Rattle.cmd_dispatch.proofs.OneCommand.{one_command}
use Rattle.law_headline.specs.Headline.{IsAhead, AnswersAll, Headline}
use Rattle.law_headline.specs.Plain.{PlainHeadline}

-- words that ask for a command ask for nothing else, so that this is how it ended
pub asked-ends : (words : List (String Global)) (command : Command) (s : Status) (failed : Bool) (input input' : SourceState) (files files' : List SourceState) (sink sink' : SinkState)
    → Asks words command → RunsTo s failed words input input' files files' sink sink' → EndsOn (names_file command) s failed command input input' files files' sink sink'
asked-ends words command s failed input input' files files' sink sink' asks ends =
    subst (λ c. EndsOn (names_file c) s failed c input input' files files' sink sink') (sym (one_command words command ends.command asks ends.asks)) ends.holds

text-as : (s : State) (text : List ℕ) (before now : SinkState) → WroteText s text before now → WroteAs false s text before now
text-as s text before now w = record { answers = w.is_text.answers; are = w.is_text.answered; written = subst (Appends before.written now.written) w.is_text.replied w.written }

each-as : (s : State) (text : List ℕ) (before now : SinkState) → WroteFormed joined s text before now → WroteAs true s text before now
each-as s text before now w = record { answers = w.answers; are = w.are; written = w.written }

-- all of the input was read, and its replies were written
input-all : (each : Bool) (limit : ℕ) (input input' : SourceState) (sink sink' : SinkState) → InputSessionEnds each status.Done limit input input' sink sink'
    → TookAll input input' (λ text. WroteAs each (empty limit) text sink sink')
input-all false limit input input' sink sink' took = record { text = took.text; all = took.all; few = took.few; holds = text-as (empty limit) took.text sink sink' took.holds }
input-all true limit input input' sink sink' took = record { text = took.text; all = took.all; few = took.few; holds = each-as (empty limit) took.text sink sink' took.holds }

pub headline : Headline
headline words form failed input input' files files' sink sink' run ends = by form.file refl (asked-ends words (Run form) status.Done failed input input' files files' sink sink' run ends)
  where
    by : (file : Bool) → form.file ≡ file → EndsOn file status.Done failed (Run form) input input' files files' sink sink' → AnswersAll form input input' files files' sink sink'
    by false e h =
        let took : TookAll input input' (λ text. WroteAs form.each (empty form.limit) text sink sink') = input-all form.each form.limit input input' sink sink' h.2 in
        record { ahead = []; text = took.text; first = subst (λ b. IsAhead b files files' []) (sym e) (h.1, refl); all = took.all; wrote = took.holds }
    by true e h =
        let r : EndsBehindFile form.each endings.Done (empty form.limit) h.file h.file' input input' sink sink' = h.holds.1 in
        record {
          ahead = whole r.text;
          text = r.ends.text;
          first = subst (λ b. IsAhead b files files' (whole r.text)) (sym e) (record { file = h.file; file' = h.file'; others = h.others; were = h.were; are = h.are; holds = record { text = r.text; all = r.all; is = refl } });
          all = r.ends.all;
          wrote = r.ends.holds;
        }

pub plain-headline : PlainHeadline
plain-headline words form failed input input' files files' sink sink' run over ends =
    let asked : EndsOn form.file status.Done failed (Run form) input input' files files' sink sink' = asked-ends words (Run form) status.Done failed input input' files files' sink sink' run ends in
    let there : EndsOn false status.Done failed (Run form) input input' files files' sink sink' = subst (λ b. EndsOn b status.Done failed (Run form) input input' files files' sink sink') over.file asked in
    let took : TookAll input input' (λ text. WroteText (empty form.limit) text sink sink') = subst (λ b. InputSessionEnds b status.Done form.limit input input' sink sink') over.each there.2 in
    record {
      text = took.text;
      all = took.all;
      written = took.holds.replied;
      grew = took.holds.written;
      is_text = λ none looks. texts-are-plain form.limit took.text took.holds.replied took.holds.is_text none looks;
    }
