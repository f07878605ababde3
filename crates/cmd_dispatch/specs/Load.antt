-- What a load comes to.
use Rattle.std.specs.Prelude.{ℕ, ◌^◌, List, [], ◌∷◌, ◌++◌, codes, decimal}
use Rattle.std.specs.List.{count_by}
use Rattle.std.specs.Io.KnownBytes.{Appends, Keeps}
use Rattle.io_streams.specs.declared.status.Status.{Status}
use Rattle.io_streams.specs.declared.status.Status.TheVariants as status
use Rattle.io_streams.specs.Sink.{SinkState, BrokeOff}
use Rattle.sql_text.specs.Lines.{is_line_feed}
use Rattle.cmd_load.specs.Script.{script_text}
use Rattle.cmd_session.specs.declared.announced.Announced.{Announced}
use Rattle.cmd_session.specs.Announced.{announced_by}
use Rattle.cmd_session.specs.State.{State, empty, after}
use Rattle.cmd_session.specs.Replies.{IsSessionText}

-- how many LF a text has
abbrev pub line_count : List ℕ → ℕ
line_count text = count_by is_line_feed text

-- a number behind its label
abbrev pub labelled : List ℕ → ℕ → List ℕ
labelled label n = label ++ decimal n

-- the summary of a load: so many rows, so many lines of replies, and what the live queries announce
abbrev pub summary_text : ℕ → ℕ → Announced → List ℕ
summary_text rows lines announced =
    labelled (codes "load ") rows ++ labelled (codes " lines ") lines ++ labelled (codes " cells ") announced.cells ++ labelled (codes " answers ") announced.answers ++ 10 ∷ []

-- the state before the first line of a script
abbrev pub start : State
start = empty (2 ^ 40)

-- This holds of the summary of the session text of the script of so many rows, and of the queries that are live behind its last line.
pub record Summarized (rows : ℕ) (P : List ℕ → Type 0) : Type 0 where
  pub text : List ℕ
  pub is_text : IsSessionText (2 ^ 40) (script_text rows) text
  pub holds : P (summary_text rows (line_count text) (announced_by (after start is_text.answers).queries))

-- How a load of so many rows ends, by the status. Done: the summary was written. WriteFault: a front of it was. Memory: nothing was.
abbrev pub LoadEnds : Status → ℕ → SinkState → SinkState → Type 0
LoadEnds status.Done rows sink sink' = Summarized rows (λ summary. Appends sink.written sink'.written summary)
LoadEnds status.Invalid rows sink sink' = ⊥
LoadEnds status.Usage rows sink sink' = ⊥
LoadEnds status.ReadFault rows sink sink' = ⊥
LoadEnds status.WriteFault rows sink sink' = Summarized rows (λ summary. BrokeOff sink sink' summary)
LoadEnds status.Memory rows sink sink' = Keeps sink.written sink'.written
LoadEnds status.ByteLimit rows sink sink' = ⊥
