-- How a session ends, by the status.
use Rattle.std.specs.Prelude.{◌≡◌, ℕ, ◌⊎◌, Bool, true, false, List}
use Rattle.io_streams.specs.declared.status.Status.{Status}
use Rattle.io_streams.specs.declared.status.Status.TheVariants as status
use Rattle.io_streams.specs.Source.{SourceState}
use Rattle.io_streams.specs.Sink.{SinkState}
use Rattle.cmd_session.specs.State.{empty}
use Rattle.cmd_session.specs.declared.run.Ending.{Ending}
use Rattle.cmd_session.specs.declared.run.Ending.TheVariants.{Done, ReadFault, WriteFault, Memory, ByteLimit}
use Rattle.cmd_session.specs.Run.{Streams}
use Rattle.cmd_each.specs.OneLine.{joined}
use Rattle.cmd_each.specs.Run.{FormedStreams}
use Rattle.cmd_dispatch.specs.Behind.{EndsInFile, EndsBehindFile}
use Rattle.cmd_dispatch.specs.Files.{FirstRead}

-- nothing was read or written
abbrev pub DidNothing : SourceState → SourceState → SinkState → SinkState → Type 0
DidNothing source source' sink sink' = (source' ≡ source) × (sink' ≡ sink)

-- the status that an ending leads to
abbrev pub status_of : Ending → Status
status_of Done = status.Done
status_of ReadFault = status.ReadFault
status_of WriteFault = status.WriteFault
status_of Memory = status.Memory
status_of ByteLimit = status.ByteLimit

-- How a session over the input ends that may take so many rows, by the status. Want of memory may come while it is opened, too.
abbrev pub SessionEnds : Status → ℕ → SourceState → SourceState → SinkState → SinkState → Type 0
SessionEnds status.Done limit source source' sink sink' = Streams Done (empty limit) source source' sink sink'
SessionEnds status.Invalid limit source source' sink sink' = ⊥
SessionEnds status.Usage limit source source' sink sink' = ⊥
SessionEnds status.ReadFault limit source source' sink sink' = Streams ReadFault (empty limit) source source' sink sink'
SessionEnds status.WriteFault limit source source' sink sink' = Streams WriteFault (empty limit) source source' sink sink'
SessionEnds status.Memory limit source source' sink sink' = DidNothing source source' sink sink' ⊎ Streams Memory (empty limit) source source' sink sink'
SessionEnds status.ByteLimit limit source source' sink sink' = Streams ByteLimit (empty limit) source source' sink sink'

-- The same, where each line is answered by one line.
abbrev pub EachSessionEnds : Status → ℕ → SourceState → SourceState → SinkState → SinkState → Type 0
EachSessionEnds status.Done limit source source' sink sink' = FormedStreams joined Done (empty limit) source source' sink sink'
EachSessionEnds status.Invalid limit source source' sink sink' = ⊥
EachSessionEnds status.Usage limit source source' sink sink' = ⊥
EachSessionEnds status.ReadFault limit source source' sink sink' = FormedStreams joined ReadFault (empty limit) source source' sink sink'
EachSessionEnds status.WriteFault limit source source' sink sink' = FormedStreams joined WriteFault (empty limit) source source' sink sink'
EachSessionEnds status.Memory limit source source' sink sink' = DidNothing source source' sink sink' ⊎ FormedStreams joined Memory (empty limit) source source' sink sink'
EachSessionEnds status.ByteLimit limit source source' sink sink' = FormedStreams joined ByteLimit (empty limit) source source' sink sink'

-- How a session over the input ends, each reply written as it is or as one line.
abbrev pub InputSessionEnds : Bool → Status → ℕ → SourceState → SourceState → SinkState → SinkState → Type 0
InputSessionEnds false s limit source source' sink sink' = SessionEnds s limit source source' sink sink'
InputSessionEnds true s limit source source' sink sink' = EachSessionEnds s limit source source' sink sink'

-- no source was read and nothing was written
abbrev pub DidNothingBoth : SourceState → SourceState → SourceState → SourceState → SinkState → SinkState → Type 0
DidNothingBoth file file' input input' sink sink' = (file' ≡ file) × (input' ≡ input) × (sink' ≡ sink)

-- How a session over a file and then the input ends that may take so many rows, by the status. A file that failed is told apart from an
-- input that failed.
abbrev pub FileSessionEnds : Status → Bool → Bool → ℕ → SourceState → SourceState → SourceState → SourceState → SinkState → SinkState → Type 0
FileSessionEnds status.Done failed each limit file file' input input' sink sink' = (failed ≡ false) × EndsBehindFile each Done (empty limit) file file' input input' sink sink'
FileSessionEnds status.Invalid failed each limit file file' input input' sink sink' = ⊥
FileSessionEnds status.Usage failed each limit file file' input input' sink sink' = ⊥
FileSessionEnds status.ReadFault true each limit file file' input input' sink sink' = EndsInFile each ReadFault (empty limit) file file' input input' sink sink'
FileSessionEnds status.ReadFault false each limit file file' input input' sink sink' = EndsBehindFile each ReadFault (empty limit) file file' input input' sink sink'
FileSessionEnds status.WriteFault failed each limit file file' input input' sink sink' =
    (failed ≡ false) × (EndsInFile each WriteFault (empty limit) file file' input input' sink sink' ⊎ EndsBehindFile each WriteFault (empty limit) file file' input input' sink sink')
FileSessionEnds status.Memory failed each limit file file' input input' sink sink' =
    (failed ≡ false) × (DidNothingBoth file file' input input' sink sink'
    ⊎ (EndsInFile each Memory (empty limit) file file' input input' sink sink' ⊎ EndsBehindFile each Memory (empty limit) file file' input input' sink sink'))
FileSessionEnds status.ByteLimit failed each limit file file' input input' sink sink' =
    (failed ≡ false) × (EndsInFile each ByteLimit (empty limit) file file' input input' sink sink' ⊎ EndsBehindFile each ByteLimit (empty limit) file file' input input' sink sink')

-- How a session ends, by whether a file is named.
abbrev pub SessionEndsOn : Bool → Status → Bool → Bool → ℕ → SourceState → SourceState → List SourceState → List SourceState → SinkState → SinkState → Type 0
SessionEndsOn false s failed each limit input input' files files' sink sink' = (failed ≡ false) × (files' ≡ files) × InputSessionEnds each s limit input input' sink sink'
SessionEndsOn true s failed each limit input input' files files' sink sink' = FirstRead files files' (λ file file'. FileSessionEnds s failed each limit file file' input input' sink sink')

-- whether a file failed, by how a session ended and whether in the file
abbrev pub failed_in : Ending → Bool → Bool
failed_in Done in_file = false
failed_in ReadFault in_file = in_file
failed_in WriteFault in_file = false
failed_in Memory in_file = false
failed_in ByteLimit in_file = false
