-- What a turn of a source does.
use Rattle.std.specs.Prelude.{◌≡◌, ℕ, Bool, List}
use Rattle.io_streams.specs.Source.{SourceState}
use Rattle.io_streams.specs.Sink.{SinkState, Wrote}
use Rattle.io_streams.specs.Gathered.{gathered_seen, StaysHeld}
use Rattle.io_line_reader.specs.Reading.{Reading, IsBegun}
use Rattle.io_line_reader.specs.declared.reader.LineAnswer.TheVariants as line
use Rattle.cmd_session.specs.declared.outcome.LineOutcome.{LineOutcome}
use Rattle.cmd_session.specs.declared.outcome.LineOutcome.TheVariants as outcome
use Rattle.cmd_session.specs.State.{State}
use Rattle.cmd_session.specs.Session.{SessionValue, Answered}
use Rattle.cmd_session.specs.Fetched.{Read, Came, StoppedHere}
use Rattle.cmd_session.specs.declared.one_turn.Turn.{Turn}
use Rattle.cmd_session.specs.declared.one_turn.Turn.TheVariants as turns

-- A line came, and then the session answered it with this outcome. Of a line that is too long, this holds of whatever it is.
pub record AnsweredLine (how : LineOutcome) (s : State) (old new : Reading) (source now : SourceState) (session : SessionValue) (below after : SinkState) (held kept : List ℕ) : Type 0 where
  pub long : Bool
  -- the sink and what was held when the line was there, and which reference to the sink was held before and after its answer
  pub between : SinkState
  pub left : List ℕ
  pub came : Came long old new source now below between held left
  pub name : ℕ
  pub name' : ℕ
  pub answers : (text : List ℕ) → IsBegun long new.line text → Answered how s text session (gathered_seen between name left) (gathered_seen after name' kept)

-- No memory was found for a line that came, and this holds of the flush that followed.
pub record LacksMemory (s : State) (old new : Reading) (source now : SourceState) (session : SessionValue) (below : SinkState) (held : List ℕ) (P : SinkState → List ℕ → Type 0) : Type 0 where
  pub sink : SinkState
  pub full : List ℕ
  pub lacks : AnsweredLine outcome.Memory s old new source now session below sink held full
  pub flushes : P sink full

-- The sink failed: before the source was read, in the reply to a line, or in the flush behind a line for which no memory was found.
pub data SinkFailed (s : State) (old new : Reading) (source now : SourceState) (session session' : SessionValue) (below after : SinkState) (held kept : List ℕ) : Type 0 where
  ahead : StoppedHere old new source now below after held kept → session' ≡ session → SinkFailed s old new source now session session' below after held kept
  reply : AnsweredLine outcome.WriteFault s old new source now session' below after held kept → SinkFailed s old new source now session session' below after held kept
  behind : LacksMemory s old new source now session' below held (λ lower full. StaysHeld lower after full kept) → SinkFailed s old new source now session session' below after held kept

-- How a turn goes, by its answer: what was read, what the session keeps, and what was written and is held.
abbrev pub Turned : Turn → State → Reading → Reading → SourceState → SourceState → SessionValue → SessionValue → SinkState → SinkState → List ℕ → List ℕ → Type 0
Turned turns.Answered s old new source now session session' below after held kept = AnsweredLine outcome.Done s old new source now session' below after held kept
Turned turns.Ended s old new source now session session' below after held kept = Read line.End old new source now below after held kept × (session' ≡ session)
Turned turns.Failed s old new source now session session' below after held kept = Read line.ReadFault old new source now below after held kept × (session' ≡ session)
Turned turns.Full s old new source now session session' below after held kept = Read line.ByteLimit old new source now below after held kept × (session' ≡ session)
Turned turns.Stopped s old new source now session session' below after held kept = SinkFailed s old new source now session session' below after held kept
Turned turns.Memory s old new source now session session' below after held kept = LacksMemory s old new source now session' below held (λ lower full. Wrote lower after full)
