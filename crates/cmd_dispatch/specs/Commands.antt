-- What the words after the program's name ask for.
use Rattle.std.specs.Prelude.{◌<◌, ◌≤◌, ◌^◌, ⊤, Bool, true, false, IsTrue, List, length, String}
use Rattle.std.specs.declared.alloc.Global.{Global}
use Rattle.io_streams.specs.Source.{SourceState}
use Rattle.cmd_dispatch.specs.declared.command.Command.{Command}
use Rattle.cmd_dispatch.specs.declared.command.Command.TheVariants.{Run, Load, Lower, Certify, Check, Advise, Split, Help, Version}
use Rattle.cmd_dispatch.specs.Words.{AreRun}
use Rattle.cmd_dispatch.specs.LoadWords.{AreLoad}
use Rattle.cmd_dispatch.specs.LowerWords.{AreLower}
use Rattle.cmd_dispatch.specs.CertificateWords.{AreCertify, AreCheck, AreAdvise, AreSplit}
use Rattle.cmd_dispatch.specs.HelpWords.{AreHelp, AreVersion}

-- the words ask for this
abbrev pub Asks : List (String Global) → Command → Type 0
Asks words (Run form) = AreRun words form
Asks words (Load rows) = AreLoad words rows
Asks words (Lower form) = AreLower words form
Asks words Certify = AreCertify words
Asks words Check = AreCheck words
Asks words (Advise file) = AreAdvise words file
Asks words (Split file) = AreSplit words file
Asks words Help = AreHelp words
Asks words Version = AreVersion words

-- the number of a command is one that it may have
abbrev pub IsAllowed : Command → Type 0
IsAllowed (Run form) = (0 < form.limit) × (form.limit ≤ 2 ^ 40)
IsAllowed (Load rows) = (0 < rows) × (rows ≤ 100000)
IsAllowed (Lower form) = (0 < form.rows) × (form.rows ≤ 1000)
IsAllowed Certify = ⊤
IsAllowed Check = ⊤
IsAllowed (Advise file) = ⊤
IsAllowed (Split file) = ⊤
IsAllowed Help = ⊤
IsAllowed Version = ⊤

-- whether a command reads a file
abbrev pub names_file : Command → Bool
names_file (Run form) = form.file
names_file (Load rows) = false
names_file (Lower form) = false
names_file Certify = false
names_file Check = false
names_file (Advise file) = file
names_file (Split file) = file
names_file Help = false
names_file Version = false

-- the words ask for a command, and this holds of it
pub record Runs (words : List (String Global)) (P : Command → Type 0) : Type 0 where
  pub command : Command
  pub asks : Asks words command
  pub holds : P command

-- the words ask for a command that reads a file
abbrev pub NameFile : List (String Global) → Type 0
NameFile words = Runs words (λ command. IsTrue (names_file command))

-- there is a file where a command reads one
abbrev pub HasFile : Bool → List SourceState → Type 0
HasFile false files = ⊤
HasFile true files = 0 < length files

-- no words of the forms; or they name a file, and there is none
abbrev pub AreOther : List (String Global) → List SourceState → Type 0
AreOther words files = (command : Command) → Asks words command → HasFile (names_file command) files → ⊥
