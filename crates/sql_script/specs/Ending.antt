-- How a command on a script ends: where its script is not taken, and where its text is known.
use Rattle.std.specs.Prelude.{◌≡◌, ℕ, ⊤, Option, List}
use Rattle.std.specs.Io.KnownBytes.{Appends}
use Rattle.std.specs.declared.result.Result.{Result}
use Rattle.std.specs.declared.result.Result.TheVariants.{Ok, Err}
use Rattle.io_streams.specs.Counts.{Rose}
use Rattle.io_streams.specs.declared.status.Status.{Status}
use Rattle.io_streams.specs.declared.status.Status.TheVariants as status
use Rattle.io_streams.specs.Source.{SourceState}
use Rattle.io_streams.specs.Sink.{SinkState}
use Rattle.sql_replies.specs.declared.refusal.Refusal.{Refusal}
use Rattle.sql_script.specs.declared.end.ScriptEnd.{ScriptEnd}
use Rattle.sql_script.specs.declared.end.ScriptEnd.TheVariants.{Refused, ReadFault, ByteLimit, Memory}
use Rattle.sql_script.specs.Ends.{IsFull}
use Rattle.sql_script.specs.Commands.{Outcome, ComesTo, TookUnsettled, WroteFront, error_text}

-- it comes to a refusal of this line
pub record Refuses (IsOutcome : List (List ℕ) → Outcome → Type 0) (number : ℕ) (word : Refusal) (source now : SourceState) : Type 0 where
  pub needs : Option ℕ
  pub comes : ComesTo IsOutcome source now (record { status = status.Invalid; text = error_text number word; needs = needs })

-- What was read where a command stops before it has an answer. A refusal is what it comes to.
abbrev pub StopsAt : (List (List ℕ) → Outcome → Type 0) → ScriptEnd → SourceState → SourceState → Type 0
StopsAt IsOutcome (Refused number word) source now = Refuses IsOutcome number word source now
StopsAt IsOutcome ReadFault source now = Rose source.faults now.faults × TookUnsettled IsOutcome source now (λ text. ⊤)
StopsAt IsOutcome ByteLimit source now = TookUnsettled IsOutcome source now IsFull
StopsAt IsOutcome Memory source now = ⊤

-- A text was written, and the status is the one that goes with it; or the sink failed, and a front of the text was written.
abbrev pub EndsWith : Status → List ℕ → Status → SinkState → SinkState → Type 0
EndsWith wanted text status.WriteFault before after = WroteFront before after text
EndsWith wanted text s before after = (wanted ≡ s) × Appends before.written after.written text

-- what a call does that writes a text, as far as a command tells it
abbrev pub WritesText : {T E : Type 0} → Result T E → List ℕ → SinkState → SinkState → Type 0
WritesText (Ok x) text before after = Appends before.written after.written text
WritesText (Err e) text before after = WroteFront before after text

-- What is written where a command stops before it has an answer: the line of a refusal, and else nothing.
abbrev pub EndsBy : ScriptEnd → Status → SinkState → SinkState → Type 0
EndsBy (Refused number word) s before after = EndsWith status.Invalid (error_text number word) s before after
EndsBy ReadFault s before after = (s ≡ status.ReadFault) × (after ≡ before)
EndsBy ByteLimit s before after = (s ≡ status.ByteLimit) × (after ≡ before)
EndsBy Memory s before after = (s ≡ status.Memory) × (after ≡ before)
