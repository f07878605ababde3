-- Runs of rows: what waits after each of them comes to all answers of the history, whatever the order between streams.
use Rattle.std.specs.Prelude.{◌≡◌, ◌<◌, ◌^◌, ℤ, List, [], ◌∷◌, ◌++◌, length, if◌then◌else◌}
use Rattle.sem_query.specs.Query.{IsWithinLimits}
use Rattle.sem_query.specs.Meaning.{Arrival, answers}
use Rattle.sem_query.specs.Cells.{printed}
use Rattle.sem_query.specs.Reordering.{Reorders}
use Rattle.sem_laws.specs.Growth.{occurs}
use Rattle.exec_pool.specs.Extents.{PoolValue}
use Rattle.exec_query.specs.Executor.{ExecutorValue, waiting_in, IsSound}
use Rattle.exec_query.specs.Standing.{StandsFor, IsReady, TookRow}

-- an executor that takes these rows, with all that waited after each of them; between two rows its answers may be written,
-- and other cells of the pool may change, as long as it stands for what it stood for
pub data Run : ExecutorValue → PoolValue → List Arrival → List (List ℤ) → Type 0 where
  ended : {e : ExecutorValue} {pool : PoolValue} → Run e pool [] []
  took : {e : ExecutorValue} {pool : PoolValue} {rows : List Arrival} {waited : List (List ℤ)} (r : Arrival) (after : ExecutorValue) (later : PoolValue)
      → TookRow e pool r after later → after.query ≡ e.query → Run after later rows waited → Run e pool (r ∷ rows) (waiting_in after ++ waited)
  between : {e : ExecutorValue} {pool : PoolValue} {rows : List Arrival} {waited : List (List ℤ)} (other : ExecutorValue) (later : PoolValue)
      → ((history : List Arrival) → StandsFor e pool history → StandsFor other later history) → other.query ≡ e.query → Run other later rows waited
      → Run e pool rows waited

-- over a run from no rows each tuple waits as often as it is an answer of the nested product, with DISTINCT once
abbrev pub RunsAnswerAll : Type 0
RunsAnswerAll =
    (e : ExecutorValue) (pool : PoolValue) (rows : List Arrival) (waited : List (List ℤ)) → IsWithinLimits e.query → StandsFor e pool []
    → Run e pool rows waited
    → (t : List ℤ) → occurs t waited ≡ occurs t (if e.query.distinct then printed e.query rows else answers e.query rows)

-- two runs of one query in which each stream has the same rows answer the same, whatever the order between streams
abbrev pub RunsAgree : Type 0
RunsAgree =
    (e f : ExecutorValue) (pool other : PoolValue) (g h : List Arrival) (waited others : List (List ℤ)) → IsWithinLimits e.query → f.query ≡ e.query
    → StandsFor e pool [] → StandsFor f other [] → Run e pool g waited → Run f other h others → Reorders g h
    → (t : List ℤ) → occurs t waited ≡ occurs t others

-- an executor that stands for a history of fewer than 2^40 rows can take one more
abbrev pub StandingIsReady : Type 0
StandingIsReady =
    (e : ExecutorValue) (pool : PoolValue) (history : List Arrival) → IsSound e → StandsFor e pool history → length history < 2 ^ 40 → IsReady e pool
