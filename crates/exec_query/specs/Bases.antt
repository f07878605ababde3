-- What an executor stands for that goes on from a base, as one does whose cells and tuples were read back.
use Rattle.std.specs.Prelude.{◌≡◌, ◌-◌, ◌*◌, Bool, true, ◌&&◌, nat_eq, ℤ, List, [], ◌∷◌, ◌++◌, length, replicate, if◌then◌else◌}
use Rattle.std.specs.List.{list_all}
use Rattle.exec_answer_table.specs.Entries.{Ascends}
use Rattle.sem_query.specs.declared.cell.Cell.{Cell}
use Rattle.sem_query.specs.declared.plan.PartPlan.{PartPlan}
use Rattle.sem_query.specs.Query.{QueryValue}
use Rattle.sem_query.specs.Meaning.{Arrival, new_answers}
use Rattle.sem_query.specs.Domains.{RowKeeps, RowsKeep}
use Rattle.sem_query.specs.Sharing.{Box, sizes_in}
use Rattle.sem_query.specs.Bases.{Base, first_base, base_of, answers_from, kept}
use Rattle.exec_pool.specs.Extents.{PoolValue, IsLive}
use Rattle.exec_query.specs.Executor.{ExecutorValue, parts_in, list_in, cells_in, rest_in, tuples_in, waiting_in, IsSound}
use Rattle.exec_query.specs.Standing.{StandsFor, Took}
use Rattle.exec_restore.specs.Loadable.{is_empty}

-- what an executor keeps that goes on from a base, after the rows since
abbrev pub kept_in : ExecutorValue → Base → List Arrival → Base
kept_in e base history = kept e.query (parts_in e) (list_in e) base history

-- whether a base is as after creation
abbrev pub is_fresh : Base → Bool
is_fresh base = nat_eq base.given 0 && (nat_eq (length base.table) 0 && list_all is_empty base.cells)

-- what is answered to a row: the new answers of the rows since creation where the base is as after creation, else what the base and the rows
-- since tell
abbrev pub answers_by : QueryValue → List PartPlan → List Box → Base → List Arrival → Arrival → List (List ℤ)
answers_by q plan list base history r =
    if is_fresh base then new_answers q history r else answers_from q plan (kept q plan list base history) r

-- the executor stands for a base and the rows since, which keep to the domains: its cells, its number of rows and with DISTINCT its tuples
-- are what they come to
pub record StandsFrom (e : ExecutorValue) (pool : PoolValue) (base : Base) (history : List Arrival) : Type 0 where
  pub live : IsLive pool e.extent
  pub size : length base.cells ≡ sizes_in (list_in e)
  pub cells : cells_in e pool ≡ (kept_in e base history).cells
  pub rest : rest_in e pool ≡ replicate (64 * e.extent.pages - sizes_in (list_in e)) Cell.Empty
  pub given : e.given ≡ (kept_in e base history).given
  pub rows : RowsKeep e.query history
  pub tuples : e.query.distinct ≡ true → tuples_in e ≡ (kept_in e base history).table

-- whatever base and rows it stood for, what these answer to the row waits, and it stands for the base and the rows with it
abbrev pub TookFrom : ExecutorValue → PoolValue → Arrival → ExecutorValue → PoolValue → Type 0
TookFrom before pool r after later =
    (base : Base) (history : List Arrival) → StandsFrom before pool base history
    → (waiting_in after ≡ answers_by before.query (parts_in before) (list_in before) base history r) × StandsFrom after later base (history ++ r ∷ [])

-- an executor that took a row that keeps to the domains goes on from each base that it stood for
abbrev pub TakingKeepsOn : Type 0
TakingKeepsOn =
    (before after : ExecutorValue) (pool later : PoolValue) (r : Arrival) → IsSound before → RowKeeps before.query r
    → Ascends after.table.entries → Took before pool r after later
    → TookFrom before pool r after later

-- a base that is that of a history, with rows since, is the whole history; a history is the first base with its rows; and what was kept can
-- be the base
abbrev pub BasesAndHistories : Type 0
BasesAndHistories =
    (e : ExecutorValue) (pool : PoolValue) → IsSound e
    → ((history later : List Arrival) → RowsKeep e.query history → StandsFrom e pool (base_of e.query (list_in e) history) later → StandsFor e pool (history ++ later))
    × ((history : List Arrival) → StandsFor e pool history → StandsFrom e pool (first_base (list_in e)) history)
    × ((base : Base) (history : List Arrival) → StandsFrom e pool base history → StandsFrom e pool (kept_in e base history) [])
