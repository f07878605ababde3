-- What holds of all words, and of all files.
use Rattle.std.specs.Prelude.{◌≡◌, ℕ, false, List, ◌++◌, String}
use Rattle.std.specs.declared.alloc.Global.{Global}
use Rattle.io_streams.specs.Sink.{SinkState}
use Rattle.sql_text.specs.Lines.{lines}
use Rattle.cmd_session.specs.State.{empty}
use Rattle.cmd_session.specs.Run.{WroteText}
use Rattle.cmd_dispatch.specs.Behind.{whole, WroteAs}
use Rattle.cmd_dispatch.specs.declared.command.Command.{Command}
use Rattle.cmd_dispatch.specs.Commands.{Asks}

-- words ask for one thing at most
abbrev pub AskForOne : Type 0
AskForOne = (words : List (String Global)) → (one : Command) → (other : Command) → Asks words one → Asks words other → one ≡ other

-- the lines of a file's text, made whole, and of what follows are those of the file, and then those of what follows
abbrev pub LinesOfBoth : Type 0
LinesOfBoth = (file : List ℕ) → (rest : List ℕ) → lines (whole file ++ rest) ≡ lines file ++ lines rest

-- what is written over a file and the input is what is written over an input that has the file's text, made whole, and then the other bytes
abbrev pub WritesAsOneInput : Type 0
WritesAsOneInput = (limit : ℕ) → (file : List ℕ) → (rest : List ℕ) → (before : SinkState) → (now : SinkState) → WroteAs false (empty limit) (whole file ++ rest) before now → WroteText (empty limit) (whole file ++ rest) before now
