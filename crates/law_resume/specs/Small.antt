-- How long the lines of a checkpoint are.
use Rattle.std.specs.Prelude.{◌≤◌, ◌^◌, List, length, All, IsTrue}
use Rattle.sem_query.specs.declared.cell.Cell.{Cell}
use Rattle.sql_text.specs.Value.{fits_i64}
use Rattle.sql_catalog.specs.Streams.{Shape, IsName, IsCatalog}
use Rattle.exec_registry.specs.Live.{LiveQuery, base_in}
use Rattle.exec_registry.specs.Sound.{IsSoundLive}
use Rattle.cmd_session.specs.Checkpoint.{query_line, checkpoint_lines}
use Rattle.cmd_session.specs.State.{State}

-- an extreme that is kept is an integer of 64 bits
abbrev pub FitsContent : Cell → Type 0
FitsContent Cell.Empty = Unit {0}
FitsContent (Cell.Count n) = Unit {0}
FitsContent Cell.Present = Unit {0}
FitsContent (Cell.Extreme z) = IsTrue (fits_i64 z)

-- a live query can be created again by a line, and what is kept of it are integers of 64 bits
pub record HasShortLines (streams : List Shape) (q : LiveQuery) : Type 0 where
  pub name : IsName q.name
  pub created : length (query_line streams q) ≤ 1024
  pub given : (base_in q).given ≤ 2 ^ 40
  pub cells : All FitsContent (base_in q).cells
  pub values : All (All (λ z. IsTrue (fits_i64 z))) (base_in q).table

-- then each line of a checkpoint has at most 1,024 bytes
abbrev pub CheckpointLinesAreShort : Type 0
CheckpointLinesAreShort =
    (s : State) → IsCatalog s.streams → s.taken ≤ 2 ^ 40 → All IsSoundLive s.queries → All (HasShortLines s.streams) s.queries
    → All (λ line. length line ≤ 1024) (checkpoint_lines s)
