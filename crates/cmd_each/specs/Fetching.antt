-- How the next line comes.
use Rattle.std.specs.Prelude.{◌≡◌, ◌≤◌, ⊤, ℕ, ℤ, Bool, false, List, [], length, IsTrue, Option, Some, None}
use Rattle.io_streams.specs.Source.{SourceState}
use Rattle.io_streams.specs.Sink.{SinkState, Wrote}
use Rattle.io_streams.specs.Gathered.{StaysHeld}
use Rattle.io_line_reader.specs.Reading.{Reading}
use Rattle.io_row_reader.specs.Open.{is_open}
use Rattle.io_row_reader.specs.Plain.{IsPlainRow}
use Rattle.cmd_session.specs.Lock.{open_in}
use Rattle.cmd_session.specs.Session.{SessionValue}
use Rattle.io_line_reader.specs.declared.reader.LineAnswer.TheVariants as line
use Rattle.cmd_session.specs.Fetched.{Read, Came, StoppedHere}
use Rattle.cmd_session.specs.declared.run.Ending.{Ending}
use Rattle.cmd_session.specs.declared.run.Ending.TheVariants as ending
use Rattle.cmd_each.specs.declared.run.Next.{Next}
use Rattle.cmd_each.specs.declared.run.Next.TheVariants.{Given, Over}

-- how the next line comes, or why there is none
abbrev pub Comes : Next → Reading → Reading → SourceState → SourceState → SinkState → SinkState → List ℕ → List ℕ → Type 0
Comes (Given long plain) old new source now below after held kept = Came long old new source now below after held kept
Comes (Over ending.Done) old new source now below after held kept = Read line.End old new source now below after held kept
Comes (Over ending.ReadFault) old new source now below after held kept = Read line.ReadFault old new source now below after held kept
Comes (Over ending.ByteLimit) old new source now below after held kept = Read line.ByteLimit old new source now below after held kept
Comes (Over ending.WriteFault) old new source now below after held kept = StoppedHere old new source now below after held kept
Comes (Over ending.Memory) old new source now below after held kept = ⊥

-- a line of at most 1,024 bytes is a row of an open stream, and these are its values
pub record IsOpenRow (k : SessionValue) (line : List ℕ) (stream : ℕ) (values : List ℤ) : Type 0 where
  pub row : IsPlainRow k.streams line stream values
  pub opens : IsTrue (is_open (open_in k.lock) stream)
  pub short : length line ≤ 1024

-- where a stream is told, the line is a row of that one
abbrev pub ToldRow : Bool → Option ℕ → SessionValue → List ℕ → List ℤ → Type 0
ToldRow long None k line values = ⊤
ToldRow long (Some stream) k line values = (long ≡ false) × IsOpenRow k line stream values

-- so it is with the line that came
abbrev pub HasRow : Next → SessionValue → List ℕ → List ℤ → Type 0
HasRow (Given long plain) k line values = ToldRow long plain k line values
HasRow (Over ending) k line values = ⊤

-- no stream is told
abbrev pub HasNoRow : Next → Type 0
HasNoRow (Given long plain) = plain ≡ None
HasNoRow (Over ending) = ⊤

-- How a run ends that came to an ending, once what is held is written: so; or the sink failed.
pub data EndsFlushed (result how : Ending) (below after : SinkState) (held kept : List ℕ) : Type 0 where
  whole : result ≡ how → Wrote below after held → kept ≡ [] → EndsFlushed result how below after held kept
  broke : result ≡ ending.WriteFault → StaysHeld below after held kept → EndsFlushed result how below after held kept
