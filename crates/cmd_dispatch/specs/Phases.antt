-- A session that answers the lines of a file, where one is named, and then those of the input.
use Rattle.std.specs.Prelude.{◌≡◌, ◌≤◌, ℕ, Bool, true, false, List}
use Rattle.io_streams.specs.Source.{SourceState}
use Rattle.io_streams.specs.Sink.{SinkState}
use Rattle.cmd_session.specs.State.{State}
use Rattle.cmd_session.specs.Session.{SessionValue}
use Rattle.cmd_session.specs.Run.{Ran, TookAll, AnsweredText}
use Rattle.cmd_session.specs.declared.run.Ending.{Ending}
use Rattle.cmd_session.specs.declared.run.Ending.TheVariants as ending
use Rattle.cmd_each.specs.OneLine.{joined}
use Rattle.cmd_each.specs.Run.{FormedRan, AnsweredFormed}
use Rattle.cmd_dispatch.specs.Behind.{EndsInFile, EndsBehindFile}
use Rattle.cmd_dispatch.specs.Files.{FirstRead}

-- a run over one source ends so, each reply written as it is or as one line, and the counts of faults did not fall
abbrev pub RanAs : Bool → Ending → State → SourceState → SourceState → SinkState → SinkState → Type 0
RanAs false how s source source' sink sink' = Ran how s source source' sink sink'
RanAs true how s source source' sink sink' = FormedRan joined how s source source' sink sink'

-- The replies to all lines of a text were written, and the session stands for the state after them.
abbrev pub AnsweredAs : Bool → State → List ℕ → SinkState → SinkState → SessionValue → Type 0
AnsweredAs false s text before now new = AnsweredText s text before now new
AnsweredAs true s text before now new = AnsweredFormed joined s text before now new

-- a run read a source to its end and answered all its lines
pub record AnsweredAll (each : Bool) (s : State) (source now : SourceState) (before after : SinkState) (new : SessionValue) : Type 0 where
  pub took : TookAll source now (λ text. AnsweredAs each s text before after new)
  pub input_later : source.faults ≤ now.faults
  pub output_later : before.faults ≤ after.faults

-- What was done before the input is read, by whether a file is named: all lines of the file were answered, or nothing was done.
abbrev pub Ahead : Bool → Bool → State → List SourceState → List SourceState → SinkState → SinkState → SessionValue → SessionValue → Type 0
Ahead false each s files files' before now old new = (files' ≡ files) × (now ≡ before) × (new ≡ old)
Ahead true each s files files' before now old new = FirstRead files files' (λ file file'. AnsweredAll each s file file' before now new)

-- A run ended in the file.
abbrev pub StopsInFile : Bool → Bool → Ending → State → List SourceState → List SourceState → SinkState → SinkState → Type 0
StopsInFile false each how s files files' before now = ⊥
StopsInFile true each how s files files' before now = FirstRead files files' (λ file file'. RanAs each how s file file' before now)

-- How the lines of the file go, where one is named. Only where all of them were answered the input is read.
abbrev pub FilePhase : Ending → Bool → Bool → State → List SourceState → List SourceState → SinkState → SinkState → SessionValue → SessionValue → Type 0
FilePhase ending.Done named each s files files' before now old new = Ahead named each s files files' before now old new
FilePhase ending.ReadFault named each s files files' before now old new = StopsInFile named each ending.ReadFault s files files' before now
FilePhase ending.WriteFault named each s files files' before now old new = StopsInFile named each ending.WriteFault s files files' before now
FilePhase ending.Memory named each s files files' before now old new = StopsInFile named each ending.Memory s files files' before now
FilePhase ending.ByteLimit named each s files files' before now old new = StopsInFile named each ending.ByteLimit s files files' before now

-- a run over a file and the input ended so, in the file or behind it
abbrev pub EndsThere : Bool → Bool → Ending → State → SourceState → SourceState → SourceState → SourceState → SinkState → SinkState → Type 0
EndsThere false each how s file file' input input' sink sink' = EndsBehindFile each how s file file' input input' sink sink'
EndsThere true each ending.Done s file file' input input' sink sink' = ⊥
EndsThere true each ending.ReadFault s file file' input input' sink sink' = EndsInFile each ending.ReadFault s file file' input input' sink sink'
EndsThere true each ending.WriteFault s file file' input input' sink sink' = EndsInFile each ending.WriteFault s file file' input input' sink sink'
EndsThere true each ending.Memory s file file' input input' sink sink' = EndsInFile each ending.Memory s file file' input input' sink sink'
EndsThere true each ending.ByteLimit s file file' input input' sink sink' = EndsInFile each ending.ByteLimit s file file' input input' sink sink'

-- it ended so, and the counts of faults did not fall
pub record FileRan (in_file each : Bool) (how : Ending) (s : State) (file file' input input' : SourceState) (sink sink' : SinkState) : Type 0 where
  pub ends : EndsThere in_file each how s file file' input input' sink sink'
  pub file_later : file.faults ≤ file'.faults
  pub input_later : input.faults ≤ input'.faults
  pub output_later : sink.faults ≤ sink'.faults

-- a session ended so over the input, behind the first of the files where one is named
abbrev pub SessionRan : Bool → Bool → Bool → Ending → State → SourceState → SourceState → List SourceState → List SourceState → SinkState → SinkState → Type 0
SessionRan false in_file each how s input input' files files' sink sink' = (in_file ≡ false) × (files' ≡ files) × RanAs each how s input input' sink sink'
SessionRan true in_file each how s input input' files files' sink sink' = FirstRead files files' (λ file file'. FileRan in_file each how s file file' input input' sink sink')
