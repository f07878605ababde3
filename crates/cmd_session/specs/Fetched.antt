-- How the next line comes.
use Rattle.std.specs.Prelude.{◌≡◌, Bool, false, List, ℕ, []}
use Rattle.io_streams.specs.Source.{SourceState}
use Rattle.io_streams.specs.Sink.{SinkState, Wrote}
use Rattle.io_streams.specs.Gathered.{StaysHeld}
use Rattle.io_line_reader.specs.Reading.{Reading, IsBuffered, NextLine, answer_to}
use Rattle.io_line_reader.specs.declared.reader.LineAnswer.{LineAnswer}
use Rattle.io_line_reader.specs.declared.reader.LineAnswer.TheVariants as line
use Rattle.cmd_session.specs.declared.fetch.Fetched.{Fetched}
use Rattle.cmd_session.specs.declared.fetch.Fetched.TheVariants.{Given, Ended, Failed, Full, Stopped}

-- what was held was written, and then the reader was asked for the next line
pub record Read (answer : LineAnswer) (old new : Reading) (source now : SourceState) (below after : SinkState) (held kept : List ℕ) : Type 0 where
  pub next : NextLine answer old new source now
  pub wrote : Wrote below after held
  pub none : kept ≡ []

-- A line came: out of what was read before, with nothing else changed, or after what was held was written.
pub data Came (long : Bool) (old new : Reading) (source now : SourceState) (below after : SinkState) (held kept : List ℕ) : Type 0 where
  buffered : IsBuffered old new → long ≡ false → now ≡ source → after ≡ below → kept ≡ held → Came long old new source now below after held kept
  read : Read (answer_to long) old new source now below after held kept → Came long old new source now below after held kept

-- the sink failed before the source was read
pub record StoppedHere (old new : Reading) (source now : SourceState) (below after : SinkState) (held kept : List ℕ) : Type 0 where
  pub reader : new ≡ old
  pub left : now ≡ source
  pub stays : StaysHeld below after held kept

-- how the next line comes, or why there is none
abbrev pub Comes : Fetched → Reading → Reading → SourceState → SourceState → SinkState → SinkState → List ℕ → List ℕ → Type 0
Comes (Given long) old new source now below after held kept = Came long old new source now below after held kept
Comes Ended old new source now below after held kept = Read line.End old new source now below after held kept
Comes Failed old new source now below after held kept = Read line.ReadFault old new source now below after held kept
Comes Full old new source now below after held kept = Read line.ByteLimit old new source now below after held kept
Comes Stopped old new source now below after held kept = StoppedHere old new source now below after held kept
