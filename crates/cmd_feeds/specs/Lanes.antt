-- What a turn of a feed does.
use Rattle.std.specs.Prelude.{◌≡◌, ◌⊎◌, ℕ, Bool, true, false, List}
use Rattle.io_streams.specs.Source.{SourceState}
use Rattle.io_streams.specs.Sink.{SinkState, Wrote, BrokeOff}
use Rattle.io_streams.specs.Gathered.{gathered_seen}
use Rattle.io_line_reader.specs.Reading.{Reading, answer_to}
use Rattle.io_line_reader.specs.declared.reader.LineAnswer.TheVariants as line
use Rattle.cmd_session.specs.declared.outcome.LineOutcome.TheVariants as outcome
use Rattle.cmd_session.specs.State.{State}
use Rattle.cmd_session.specs.Session.{SessionValue}
use Rattle.cmd_session.specs.declared.one_turn.Turn.{Turn}
use Rattle.cmd_session.specs.declared.one_turn.Turn.TheVariants as turns
use Rattle.cmd_session.specs.Events.{fault_text}
use Rattle.cmd_session.specs.Fetched.{Read, StoppedHere}
use Rattle.cmd_session.specs.Turned.{AnsweredLine, LacksMemory, SinkFailed}
use Rattle.cmd_feeds.specs.declared.stage.Stage.{Stage}
use Rattle.cmd_feeds.specs.declared.stage.Stage.TheVariants.{Open, Ended, Failed}
use Rattle.cmd_feeds.specs.declared.stage.Lane.{Lane}

-- whether the feed has not ended
abbrev pub is_open : Stage → Bool
is_open Open = true
is_open Ended = false
is_open Failed = false

-- whether the feed has ended by a fault
abbrev pub is_failed : Stage → Bool
is_failed Open = false
is_failed Ended = false
is_failed Failed = true

-- How a look at the next line of a source goes, which the session does not take. Full: there is one, or the source has more bytes than can be
-- counted.
abbrev pub Looked : Turn → Reading → Reading → SourceState → SourceState → SinkState → SinkState → List ℕ → List ℕ → Type 0
Looked turns.Answered old new source now below after held kept = ⊥
Looked turns.Ended old new source now below after held kept = Read line.End old new source now below after held kept
Looked turns.Failed old new source now below after held kept = Read line.ReadFault old new source now below after held kept
Looked turns.Full old new source now below after held kept = Read line.ByteLimit old new source now below after held kept ⊎ ((long : Bool) × Read (answer_to long) old new source now below after held kept)
Looked turns.Stopped old new source now below after held kept = StoppedHere old new source now below after held kept
Looked turns.Memory old new source now below after held kept = ⊥

-- A source has more bytes than can be counted; or the session takes no more lines, and the source has another one.
pub data Filled (more : Bool) (old new : Reading) (source now : SourceState) (below after : SinkState) (held kept : List ℕ) : Type 0 where
  bytes : Read line.ByteLimit old new source now below after held kept → Filled more old new source now below after held kept
  lines : more ≡ false → (long : Bool) → Read (answer_to long) old new source now below after held kept → Filled more old new source now below after held kept

-- How a turn of a source goes in a session that takes one more line, or no more: a line is answered only where it takes one.
abbrev pub TurnedWith : Turn → Bool → State → Reading → Reading → SourceState → SourceState → SessionValue → SessionValue → SinkState → SinkState → List ℕ → List ℕ → Type 0
TurnedWith turns.Answered more s old new source now session session' below after held kept = AnsweredLine outcome.Done s old new source now session' below after held kept × (more ≡ true)
TurnedWith turns.Ended more s old new source now session session' below after held kept = Read line.End old new source now below after held kept × (session' ≡ session)
TurnedWith turns.Failed more s old new source now session session' below after held kept = Read line.ReadFault old new source now below after held kept × (session' ≡ session)
TurnedWith turns.Full more s old new source now session session' below after held kept = Filled more old new source now below after held kept
TurnedWith turns.Stopped more s old new source now session session' below after held kept = SinkFailed s old new source now session session' below after held kept
TurnedWith turns.Memory more s old new source now session session' below after held kept = LacksMemory s old new source now session' below held (λ lower full. Wrote lower after full)

-- The source failed, and this holds of the sink before and after the line that says so was written.
pub record FaultMet (number : ℕ) (old new : Reading) (source now : SourceState) (below after : SinkState) (held kept : List ℕ) (P : SinkState → SinkState → List ℕ → Type 0) : Type 0 where
  pub between : SinkState
  pub left : List ℕ
  pub met : Read line.ReadFault old new source now below between held left
  pub name : ℕ
  pub name' : ℕ
  pub told : P (gathered_seen between name left) (gathered_seen after name' kept) (fault_text number)

-- How a turn of the feed of this number goes that has not ended: as the turn of its source, and a fault is written.
abbrev pub LaneTurned : Turn → Bool → State → ℕ → Lane → Lane → SourceState → SourceState → SessionValue → SessionValue → SinkState → SinkState → List ℕ → List ℕ → Type 0
LaneTurned turns.Answered more s number old new source now session session' below after held kept = AnsweredLine outcome.Done s old.reader new.reader source now session' below after held kept × (new.stage ≡ Open)
LaneTurned turns.Ended more s number old new source now session session' below after held kept = Read line.End old.reader new.reader source now below after held kept × (session' ≡ session) × (new.stage ≡ Ended)
LaneTurned turns.Failed more s number old new source now session session' below after held kept = FaultMet number old.reader new.reader source now below after held kept Wrote × (session' ≡ session) × (new.stage ≡ Failed)
LaneTurned turns.Full more s number old new source now session session' below after held kept = Filled more old.reader new.reader source now below after held kept × (new.stage ≡ Open)
LaneTurned turns.Stopped more s number old new source now session session' below after held kept =
    (SinkFailed s old.reader new.reader source now session session' below after held kept × (new.stage ≡ Open))
    ⊎ (FaultMet number old.reader new.reader source now below after held kept BrokeOff × (new.stage ≡ Failed))
LaneTurned turns.Memory more s number old new source now session session' below after held kept = LacksMemory s old.reader new.reader source now session' below held (λ lower full. Wrote lower after full) × (new.stage ≡ Open)
