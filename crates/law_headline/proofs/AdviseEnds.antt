-- What the status of `advise` says of a session over the same script.
use Rattle.std.proofs.Common.{◌≡◌, ℕ, ◌-◌, Bool, true, false, Option, None, List, ap, subst}
use Rattle.io_streams.specs.declared.status.Status.{Status}
use Rattle.io_streams.specs.declared.status.Status.TheVariants as status
use Rattle.io_streams.specs.Source.{SourceState}
use Rattle.io_streams.specs.Sink.{SinkState}
use Rattle.sql_text.specs.Lines.{lines}
use Rattle.sql_script.specs.Commands.{Outcome, AreNeeded, Finishes}
use Rattle.cmd_advise.specs.Advising.{Advises}
use Rattle.law_advice.specs.StrictStart.{TellsRefusals}
use Rattle.law_advice.proofs.StrictStart.{advise-tells-refusals}
use Rattle.cmd_dispatch.specs.declared.command.Command.TheVariants.{Advise}
use Rattle.cmd_dispatch.specs.Ends.{EndsOn}
use Rattle.law_headline.specs.Strict.{IsStrictOver, IsStrict, AdviseIsStrict}
use Rattle.law_headline.proofs.Headlines.{asked-ends}

-- `advise` reads all lines
all-read : (o : Outcome) (source now : SourceState) (text : List ℕ) → o.needs ≡ None → AreNeeded o.needs source now text → AreNeeded None source now text
all-read o source now text e h = subst (λ (n : Option ℕ). AreNeeded n source now text) e h

strict-over : (s : Status) (source now : SourceState) (sink sink' : SinkState) → Finishes Advises s source now sink sink' → IsStrictOver s source now
strict-over s source now sink sink' f = record {
  text = f.comes.text;
  all = (all-read f.outcome source now f.comes.text (ap (λ (o : Outcome). o.needs) f.comes.comes.is) f.comes.needed).0;
  tells = subst (λ t. TellsRefusals t (lines f.comes.text)) f.status_is (advise-tells-refusals (lines f.comes.text) f.outcome f.comes.comes);
}

strict-done : (file failed : Bool) (input input' : SourceState) (files files' : List SourceState) (sink sink' : SinkState) → EndsOn file status.Done failed (Advise file) input input' files files' sink sink'
    → IsStrict file status.Done input input' files files'
strict-done false failed input input' files files' sink sink' h = strict-over status.Done input input' sink sink' h.2
strict-done true failed input input' files files' sink sink' h = record { file = h.file; file' = h.file'; others = h.others; were = h.were; are = h.are; holds = strict-over status.Done h.file h.file' sink sink' h.holds.0 }

strict-invalid : (file failed : Bool) (input input' : SourceState) (files files' : List SourceState) (sink sink' : SinkState) → EndsOn file status.Invalid failed (Advise file) input input' files files' sink sink'
    → IsStrict file status.Invalid input input' files files'
strict-invalid false failed input input' files files' sink sink' h = strict-over status.Invalid input input' sink sink' h.2
strict-invalid true failed input input' files files' sink sink' h = record { file = h.file; file' = h.file'; others = h.others; were = h.were; are = h.are; holds = strict-over status.Invalid h.file h.file' sink sink' h.holds.0 }

pub advise-is-strict : AdviseIsStrict
advise-is-strict words file status.Done failed input input' files files' sink sink' asks told ends =
    strict-done file failed input input' files files' sink sink' (asked-ends words (Advise file) status.Done failed input input' files files' sink sink' asks ends)
advise-is-strict words file status.Invalid failed input input' files files' sink sink' asks told ends =
    strict-invalid file failed input input' files files' sink sink' (asked-ends words (Advise file) status.Invalid failed input input' files files' sink sink' asks ends)
advise-is-strict words file status.Usage failed input input' files files' sink sink' asks told ends = absurd told
advise-is-strict words file status.ReadFault failed input input' files files' sink sink' asks told ends = absurd told
advise-is-strict words file status.WriteFault failed input input' files files' sink sink' asks told ends = absurd told
advise-is-strict words file status.Memory failed input input' files files' sink sink' asks told ends = absurd told
advise-is-strict words file status.ByteLimit failed input input' files files' sink sink' asks told ends = absurd told
