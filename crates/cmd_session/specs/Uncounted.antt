-- How a run ends where no line more can be counted.
use Rattle.std.specs.Prelude.{◌⊎◌, ℕ, Bool, List}
use Rattle.io_streams.specs.Source.{SourceState}
use Rattle.io_streams.specs.Sink.{SinkState, Wrote}
use Rattle.io_streams.specs.Gathered.{StaysHeld}
use Rattle.io_line_reader.specs.Reading.{Reading}
use Rattle.io_line_reader.specs.declared.reader.LineAnswer.TheVariants as line
use Rattle.cmd_session.specs.Fetched.{Read, Came, StoppedHere}
use Rattle.cmd_session.specs.declared.run.Ending.{Ending}
use Rattle.cmd_session.specs.declared.run.Ending.TheVariants.{Done, ReadFault, WriteFault, Memory, ByteLimit}

-- a line came that is not answered, and this holds of the flush that followed
pub record CameUncounted (old new : Reading) (source now : SourceState) (below : SinkState) (held : List ℕ) (P : SinkState → List ℕ → Type 0) : Type 0 where
  pub long : Bool
  pub between : SinkState
  pub left : List ℕ
  pub came : Came long old new source now below between held left
  pub flushes : P between left

-- how a run ends there, by what was read, and by what was written and is held
abbrev pub EndsUncounted : Ending → Reading → Reading → SourceState → SourceState → SinkState → SinkState → List ℕ → List ℕ → Type 0
EndsUncounted Done old new source now below after held kept = Read line.End old new source now below after held kept
EndsUncounted ReadFault old new source now below after held kept = Read line.ReadFault old new source now below after held kept
EndsUncounted WriteFault old new source now below after held kept = StoppedHere old new source now below after held kept ⊎ CameUncounted old new source now below held (λ lower full. StaysHeld lower after full kept)
EndsUncounted Memory old new source now below after held kept = ⊥
EndsUncounted ByteLimit old new source now below after held kept = Read line.ByteLimit old new source now below after held kept ⊎ CameUncounted old new source now below held (λ lower full. Wrote lower after full)
