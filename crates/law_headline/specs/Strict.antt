-- What the status of `advise` says of a session over the same script.
use Rattle.std.specs.Prelude.{ℕ, Bool, true, false, List, String}
use Rattle.std.specs.declared.alloc.Global.{Global}
use Rattle.io_streams.specs.declared.status.Status.{Status}
use Rattle.io_streams.specs.declared.status.Status.TheVariants as status
use Rattle.io_streams.specs.Source.{SourceState}
use Rattle.io_streams.specs.Sink.{SinkState}
use Rattle.io_line_reader.specs.Reading.{TakesAll}
use Rattle.sql_text.specs.Lines.{lines}
use Rattle.law_advice.specs.StrictStart.{TellsRefusals}
use Rattle.cmd_dispatch.specs.CertificateWords.{AreAdvise}
use Rattle.cmd_dispatch.specs.Files.{FirstRead}
use Rattle.cmd_dispatch.specs.Ends.{Ends}

-- all bytes of a script were read, and the status tells whether a line of it is answered by a refusal
pub record IsStrictOver (s : Status) (source source' : SourceState) : Type 0 where
  pub text : List ℕ
  pub all : TakesAll source source' text
  pub tells : TellsRefusals s (lines text)

-- the script is the first file, where the words name one, and else the input
abbrev pub IsStrict : Bool → Status → SourceState → SourceState → List SourceState → List SourceState → Type 0
IsStrict false s input input' files files' = IsStrictOver s input input'
IsStrict true s input input' files files' = FirstRead files files' (IsStrictOver s)

-- the status is one that comes where all of a script was looked at
abbrev pub IsTold : Status → Type 0
IsTold status.Done = Unit {0}
IsTold status.Invalid = Unit {0}
IsTold status.Usage = ⊥
IsTold status.ReadFault = ⊥
IsTold status.WriteFault = ⊥
IsTold status.Memory = ⊥
IsTold status.ByteLimit = ⊥

-- where the words advise on a script and the program ends so, the status tells this
abbrev pub AdviseIsStrict : Type 0
AdviseIsStrict =
    (words : List (String Global)) (file : Bool) (s : Status) (failed : Bool) (input input' : SourceState) (files files' : List SourceState) (sink sink' : SinkState)
    → AreAdvise words file → IsTold s → Ends s failed words input input' files files' sink sink' → IsStrict file s input input' files files'
