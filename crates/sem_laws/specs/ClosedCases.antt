-- A worked base that is not closed, as one can be whose cells were loaded.
use Rattle.std.specs.Prelude.{◌≡◌, [], ◌∷◌, pos, List}
use Rattle.sem_query.specs.declared.cell.Cell.{Cell}
use Rattle.sem_query.specs.Meaning.{Arrival}
use Rattle.sem_query.specs.Cells.{synopsis}
use Rattle.sem_query.specs.Combinations.{read_from}
use Rattle.sem_query.specs.Future.{future}
use Rattle.sem_query.specs.Merge.{merge}
use Rattle.sem_laws.specs.Cases.{arrival, hot_room, hot_room_plan}
use Rattle.sem_laws.specs.Closed.{IsDistinctPlan, IsClosed}

-- in room 2 a greatest temperature of 30 and a least limit of 25
abbrev pub loaded : List Cell
loaded = Cell.Extreme (pos 30) ∷ Cell.Extreme (pos 25) ∷ []

-- a limit of 28 in room 2
abbrev pub higher : Arrival
higher = arrival 4 (pos 2 ∷ pos 28 ∷ [])

-- the row leaves all cells as they are; with an empty table, which is not closed, it is answered all the same, and where the room is in the
-- table it is not: so a cell that was loaded is walked until its tuples are known to be there
pub record LoadedCellsAreWalked : Type 0 where
  pub premises : IsDistinctPlan hot_room hot_room_plan
  pub stays : merge hot_room_plan loaded (synopsis hot_room hot_room_plan (higher ∷ [])) ≡ loaded
  pub owed : future hot_room hot_room_plan (read_from loaded) [] higher ≡ (pos 2 ∷ []) ∷ []
  pub lacking : ¬ IsClosed hot_room hot_room_plan (read_from loaded) []
  pub printed : future hot_room hot_room_plan (read_from loaded) ((pos 2 ∷ []) ∷ []) higher ≡ []
