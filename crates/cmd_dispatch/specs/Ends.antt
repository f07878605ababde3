-- How the program ends.
use Rattle.std.specs.Prelude.{◌≡◌, Bool, true, false, List, String}
use Rattle.std.specs.declared.alloc.Global.{Global}
use Rattle.io_streams.specs.declared.status.Status.{Status}
use Rattle.io_streams.specs.declared.status.Status.TheVariants as status
use Rattle.io_streams.specs.Source.{SourceState}
use Rattle.io_streams.specs.Sink.{SinkState}
use Rattle.cmd_dispatch.specs.declared.command.Command.{Command}
use Rattle.cmd_dispatch.specs.declared.command.Command.TheVariants.{Run, Load, Lower, Certify, Check, Advise, Split, Help, Version}
use Rattle.sql_script.specs.Commands as certificates
use Rattle.cmd_certify.specs.Certifying.{Certifies}
use Rattle.cmd_certify.specs.Checking.{Checks}
use Rattle.cmd_lower.specs.Lowering.{Lowers}
use Rattle.cmd_advise.specs.Advising.{Advises}
use Rattle.cmd_advise_split.specs.Splitting.{Splits}
use Rattle.cmd_dispatch.specs.Commands.{Runs, AreOther, names_file}
use Rattle.cmd_dispatch.specs.Files.{FirstRead}
use Rattle.cmd_dispatch.specs.Help.{TextEnds, help_text, version_text}
use Rattle.cmd_dispatch.specs.Load.{LoadEnds}
use Rattle.cmd_dispatch.specs.Run.{DidNothing, InputSessionEnds, FileSessionEnds}

-- how a command over a script ends, by the status
abbrev pub OverScript : Status → Command → SourceState → SourceState → SinkState → SinkState → Type 0
OverScript s (Lower form) source source' sink sink' = certificates.CommandEnds (Lowers form) s source source' sink sink'
OverScript s Certify source source' sink sink' = certificates.CommandEnds Certifies s source source' sink sink'
OverScript s Check source source' sink sink' = certificates.CommandEnds Checks s source source' sink sink'
OverScript s (Advise file) source source' sink sink' = certificates.CommandEnds Advises s source source' sink sink'
OverScript s (Split file) source source' sink sink' = certificates.CommandEnds Splits s source source' sink sink'
OverScript s (Run form) source source' sink sink' = ⊥
OverScript s (Load rows) source source' sink sink' = ⊥
OverScript s Help source source' sink sink' = ⊥
OverScript s Version source source' sink sink' = ⊥

-- how a command ends that reads no file, by the status: a load, help and the version leave the input as it was
abbrev pub CommandEnds : Status → Command → SourceState → SourceState → SinkState → SinkState → Type 0
CommandEnds s (Run form) source source' sink sink' = InputSessionEnds form.each s form.limit source source' sink sink'
CommandEnds s (Load rows) source source' sink sink' = (source' ≡ source) × LoadEnds s rows sink sink'
CommandEnds s (Lower form) source source' sink sink' = OverScript s (Lower form) source source' sink sink'
CommandEnds s Certify source source' sink sink' = OverScript s Certify source source' sink sink'
CommandEnds s Check source source' sink sink' = OverScript s Check source source' sink sink'
CommandEnds s (Advise file) source source' sink sink' = OverScript s (Advise file) source source' sink sink'
CommandEnds s (Split file) source source' sink sink' = OverScript s (Split file) source source' sink sink'
CommandEnds s Help source source' sink sink' = (source' ≡ source) × TextEnds s help_text sink sink'
CommandEnds s Version source source' sink sink' = (source' ≡ source) × TextEnds s version_text sink sink'

-- whether a status says that a source failed
abbrev pub is_read_fault : Status → Bool
is_read_fault status.Done = false
is_read_fault status.Invalid = false
is_read_fault status.Usage = false
is_read_fault status.ReadFault = true
is_read_fault status.WriteFault = false
is_read_fault status.Memory = false
is_read_fault status.ByteLimit = false

-- a command over a script in a file leaves the input as it was
abbrev pub ScriptEnds : Status → Bool → Command → SourceState → SourceState → SourceState → SourceState → SinkState → SinkState → Type 0
ScriptEnds s failed command file file' input input' sink sink' = OverScript s command file file' sink sink' × (input' ≡ input) × (failed ≡ is_read_fault s)

-- How a command ends that reads a file, by the status and whether the file failed. A session reads the input behind the file.
abbrev pub FileCommandEnds : Status → Bool → Command → SourceState → SourceState → SourceState → SourceState → SinkState → SinkState → Type 0
FileCommandEnds s failed (Run form) file file' input input' sink sink' = FileSessionEnds s failed form.each form.limit file file' input input' sink sink'
FileCommandEnds s failed (Load rows) file file' input input' sink sink' = ⊥
FileCommandEnds s failed (Lower form) file file' input input' sink sink' = ⊥
FileCommandEnds s failed Certify file file' input input' sink sink' = ⊥
FileCommandEnds s failed Check file file' input input' sink sink' = ⊥
FileCommandEnds s failed (Advise named) file file' input input' sink sink' = ScriptEnds s failed (Advise named) file file' input input' sink sink'
FileCommandEnds s failed (Split named) file file' input input' sink sink' = ScriptEnds s failed (Split named) file file' input input' sink sink'
FileCommandEnds s failed Help file file' input input' sink sink' = ⊥
FileCommandEnds s failed Version file file' input input' sink sink' = ⊥

-- How a command ends, by whether it reads a file: the first of the files, and no other.
abbrev pub EndsOn : Bool → Status → Bool → Command → SourceState → SourceState → List SourceState → List SourceState → SinkState → SinkState → Type 0
EndsOn false s failed command input input' files files' sink sink' = (failed ≡ false) × (files' ≡ files) × CommandEnds s command input input' sink sink'
EndsOn true s failed command input input' files files' sink sink' = FirstRead files files' (λ file file'. FileCommandEnds s failed command file file' input input' sink sink')

-- the words ask for a command, and it ended so
abbrev pub RunsTo : Status → Bool → List (String Global) → SourceState → SourceState → List SourceState → List SourceState → SinkState → SinkState → Type 0
RunsTo s failed words input input' files files' sink sink' = Runs words (λ command. EndsOn (names_file command) s failed command input input' files files' sink sink')

-- How the program ends, by the status. Usage: the words are none of the forms, or name a file and there is none, and nothing was read or
-- written. Each other status: the words ask for a command, and it ended so.
abbrev pub Ends : Status → Bool → List (String Global) → SourceState → SourceState → List SourceState → List SourceState → SinkState → SinkState → Type 0
Ends status.Done failed words input input' files files' sink sink' = RunsTo status.Done failed words input input' files files' sink sink'
Ends status.Invalid failed words input input' files files' sink sink' = RunsTo status.Invalid failed words input input' files files' sink sink'
Ends status.Usage failed words input input' files files' sink sink' = AreOther words files × (failed ≡ false) × (files' ≡ files) × DidNothing input input' sink sink'
Ends status.ReadFault failed words input input' files files' sink sink' = RunsTo status.ReadFault failed words input input' files files' sink sink'
Ends status.WriteFault failed words input input' files files' sink sink' = RunsTo status.WriteFault failed words input input' files files' sink sink'
Ends status.Memory failed words input input' files files' sink sink' = RunsTo status.Memory failed words input input' files files' sink sink'
Ends status.ByteLimit failed words input input' files files' sink sink' = RunsTo status.ByteLimit failed words input input' files files' sink sink'
