-- How the commands on scripts end: what was read and written under each status.
use Rattle.std.specs.Prelude.{◌≡◌, ℕ, ◌-◌, ◌^◌, ◌<◌, ⊤, Option, None, Some, List, [], ◌∷◌, ◌++◌, length, codes, decimal}
use Rattle.std.specs.Io.KnownBytes.{Consumes, Appends, Keeps}
use Rattle.io_streams.specs.Counts.{Rose}
use Rattle.io_streams.specs.declared.status.Status.{Status}
use Rattle.io_streams.specs.declared.status.Status.TheVariants as status
use Rattle.io_streams.specs.Source.{SourceState}
use Rattle.io_streams.specs.Sink.{SinkState}
use Rattle.sql_text.specs.Lines.{lines}
use Rattle.io_line_reader.specs.Reading.{TakesAll}
use Rattle.io_line_reader.specs.Texts.{ended_part}
use Rattle.io_line_reader.specs.GivenLines.{TookLines}
use Rattle.sql_script.specs.Ends.{IsFull}
use Rattle.sql_script.specs.Script.{IsRefusedAt, at_line, at_end}
use Rattle.sql_replies.specs.Texts.{word_text}
use Rattle.sql_replies.specs.declared.refusal.Refusal.{Refusal}

-- What a command comes to over some lines: its status, what it writes, and how many lines must be read for it; all of them, where no
-- number is told.
pub record Outcome : Type 0 where
  pub status : Status
  pub text : List ℕ
  pub needs : Option ℕ

-- the text for a refused line
abbrev pub error_text : ℕ → Refusal → List ℕ
error_text number word = codes "error " ++ decimal number ++ 32 ∷ word_text word ++ 10 ∷ []

-- a refused line, by its number and the word
abbrev pub refusal : ℕ → Refusal → Outcome
refusal number word = record { status = status.Invalid; text = error_text number word; needs = Some number }

-- how many lines must be read for a refusal before the query: those up to it; or all, where the script ends before its query
abbrev pub lines_for : {lines : List (List ℕ)} (number : ℕ) {word : Refusal} → IsRefusedAt lines number word → Option ℕ
lines_for number (at_line before line behind streams whole create is number_is) = Some number
lines_for number (at_end streams create word_is number_is) = None

-- a line that is refused before the query
abbrev pub early_refusal : {lines : List (List ℕ)} (number : ℕ) (word : Refusal) → IsRefusedAt lines number word → Outcome
early_refusal number word refused = record { status = status.Invalid; text = error_text number word; needs = lines_for number refused }

-- so many lines stand in the text that was taken; or it is all there is, and has fewer bytes than can be counted
abbrev pub AreNeeded : Option ℕ → SourceState → SourceState → List ℕ → Type 0
AreNeeded None source now text = TakesAll source now text × (length text < 2 ^ 64 - 1)
AreNeeded (Some n) source now text = length (lines text) ≡ n

-- The lines of a text were taken, each of them whole and as many as are needed, and over them the command comes to this.
pub record ComesTo (IsOutcome : List (List ℕ) → Outcome → Type 0) (source now : SourceState) (o : Outcome) : Type 0 where
  pub text : List ℕ
  pub took : TookLines source now text
  pub comes : IsOutcome (lines text) o
  pub needed : AreNeeded o.needs source now text

-- it came to this, with this status, and its text was written
pub record Finishes (IsOutcome : List (List ℕ) → Outcome → Type 0) (s : Status) (source now : SourceState) (before after : SinkState) : Type 0 where
  pub outcome : Outcome
  pub comes : ComesTo IsOutcome source now outcome
  pub status_is : outcome.status ≡ s
  pub written : Appends before.written after.written outcome.text

-- a front of the text was written, and then the sink failed
pub record WroteFront (before after : SinkState) (text : List ℕ) : Type 0 where
  pub front : List ℕ
  pub rest : List ℕ
  pub whole : text ≡ front ++ rest
  pub written : Appends before.written after.written front
  pub rose : Rose before.faults after.faults

-- it came to this, and then the sink failed: a front of its text was written
pub record BreaksOff (IsOutcome : List (List ℕ) → Outcome → Type 0) (source now : SourceState) (before after : SinkState) : Type 0 where
  pub outcome : Outcome
  pub comes : ComesTo IsOutcome source now outcome
  pub broke : WroteFront before after outcome.text

-- These lines settle nothing: what a command comes to over them, it comes to only where no more lines follow.
abbrev pub SettleNothing : (List (List ℕ) → Outcome → Type 0) → List (List ℕ) → Type 0
SettleNothing IsOutcome lines = (o : Outcome) → IsOutcome lines o → o.needs ≡ None

-- The bytes of a text were taken, and this holds of it. The lines that ended in it settle nothing, so there was cause to read on.
pub record TookUnsettled (IsOutcome : List (List ℕ) → Outcome → Type 0) (source now : SourceState) (P : List ℕ → Type 0) : Type 0 where
  pub text : List ℕ
  pub taken : Consumes source.left now.left text
  pub unsettled : SettleNothing IsOutcome (lines (ended_part text))
  pub holds : P text

-- How a command ends, by the status. Nothing is written before it is known what it comes to, so nothing is on a fault of the source,
-- at the byte limit and for want of memory.
abbrev pub CommandEnds : (List (List ℕ) → Outcome → Type 0) → Status → SourceState → SourceState → SinkState → SinkState → Type 0
CommandEnds IsOutcome status.Done source now before after = Finishes IsOutcome status.Done source now before after
CommandEnds IsOutcome status.Invalid source now before after = Finishes IsOutcome status.Invalid source now before after
CommandEnds IsOutcome status.Usage source now before after = ⊥
CommandEnds IsOutcome status.ReadFault source now before after = Rose source.faults now.faults × TookUnsettled IsOutcome source now (λ text. ⊤) × Keeps before.written after.written
CommandEnds IsOutcome status.WriteFault source now before after = BreaksOff IsOutcome source now before after
CommandEnds IsOutcome status.Memory source now before after = Keeps before.written after.written
CommandEnds IsOutcome status.ByteLimit source now before after = TookUnsettled IsOutcome source now IsFull × Keeps before.written after.written
