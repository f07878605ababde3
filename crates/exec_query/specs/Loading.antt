-- Loading: what a base becomes by one number that a checkpoint tells, and whether an executor took it.
use Rattle.std.specs.Prelude.{◌≡◌, ℕ, Bool, true, false, not, ◌&&◌, nat_eq, ℤ, Option, Some, None, List, [], ◌∷◌, if◌then◌else◌, option_and_then, option_map, slice_index_or, slice_set}
use Rattle.std.specs.List.{list_any}
use Rattle.sem_query.specs.declared.cell.Cell.{Cell}
use Rattle.sem_query.specs.declared.plan.PartPlan.{PartPlan}
use Rattle.sem_query.specs.Query.{QueryValue}
use Rattle.sem_query.specs.Tuples.{is_same}
use Rattle.sem_query.specs.Ranges.{all_tuples}
use Rattle.sem_query.specs.Merge.{merged_table}
use Rattle.sem_query.specs.Sharing.{Box}
use Rattle.sem_query.specs.Bases.{Base}
use Rattle.exec_pool.specs.Extents.{PoolValue}
use Rattle.exec_query.specs.Executor.{ExecutorValue}
use Rattle.exec_restore.specs.Loadable.{is_empty, filled_cell, kind_at}
use Rattle.exec_query.specs.Bases.{StandsFrom}

-- a base after this number of rows given, where none was given before
abbrev pub loaded_given : ℕ → Base → Option Base
loaded_given n base = if nat_eq base.given 0 then Some (record base { given = n }) else None

-- a base after the cell of a number has this content, where there is such a cell, it is empty, and the content fits its kind
abbrev pub loaded_cell : List Box → ℕ → ℤ → Base → Option Base
loaded_cell list i v base =
    if is_empty (slice_index_or base.cells i Cell.Present)
    then option_map (λ c. record base { cells = slice_set base.cells i c }) (option_and_then (λ kind. filled_cell base.given kind v) (kind_at list i))
    else None

-- a base after this tuple was printed: with DISTINCT, where the tuple lies in the ranges of some part and is not in the table
abbrev pub loaded_tuple : QueryValue → List PartPlan → List ℤ → Base → Option Base
loaded_tuple q plan t base =
    if q.distinct && (list_any (is_same t) (all_tuples q plan) && not (list_any (is_same t) base.table))
    then Some (record base { table = merged_table base.table (t ∷ []) })
    else None

-- what loading did: an executor stands for the base that came of it; or there is none, and all is as before
abbrev pub Loads : Bool → Option Base → ExecutorValue → PoolValue → ExecutorValue → PoolValue → Type 0
Loads result (Some base) before pool after later = (result ≡ true) × StandsFrom after later base []
Loads result None before pool after later = (result ≡ false) × (after ≡ before) × (later ≡ pool)
