-- What an executor keeps, and what it stands for, stay while its cells do.
use Rattle.std.proofs.Common.{◌≡◌, ◌≢◌, ◌∙◌, List, sym, ap, subst, take, drop}
use Rattle.sem_query.specs.declared.cell.Cell.{Cell}
use Rattle.sem_query.specs.Meaning.{Arrival}
use Rattle.sem_query.specs.Sharing.{sizes_in}
use Rattle.sem_query.specs.Bases.{Base}
use Rattle.exec_pool.specs.declared.pool.Extent.{Extent}
use Rattle.exec_pool.specs.Extents.{PoolValue, cells_of, with_cells, IsLive}
use Rattle.exec_pool.proofs.CallerLemmas.{cells_of_with, cells_of_other, live_other}
use Rattle.exec_query.specs.Executor.{ExecutorValue, list_in}
use Rattle.exec_query.specs.Standing.{AreKept, KeepsWithin}
use Rattle.exec_query.specs.Bases.{StandsFrom}
use Rattle.exec_registry.specs.Live.{Live, LiveQuery}
use Rattle.exec_query.proofs.CallerLemmas.{kept_same, within_same}
use Rattle.exec_registry.specs.Registry.{IsLiveFor}
use Rattle.exec_registry.specs.Admitted.{AreSame}

-- another pool in which the extent is live with the same cells
stands_from_same : (e : ExecutorValue) (p p' : PoolValue) (base : Base) (history : List Arrival) → AreSame e.extent p p' → StandsFrom e p base history → StandsFrom e p' base history
stands_from_same e p p' base history same s = record {
  live = same.live;
  size = s.size;
  cells = ap (take (sizes_in (list_in e))) same.cells ∙ s.cells;
  rest = ap (drop (sizes_in (list_in e))) same.cells ∙ s.rest;
  given = s.given;
  rows = s.rows;
  tuples = s.tuples;
}

pub live_for_same : (l : Live) (q : LiveQuery) (p p' : PoolValue) → AreSame l.executor.extent p p' → IsLiveFor p l q → IsLiveFor p' l q
live_for_same l q p p' s k =
    record { name = k.name; query = k.query; shared = k.shared; plan = k.plan; stands = stands_from_same l.executor p p' q.base q.history s k.stands }

pub kept_beside : (e : ExecutorValue) (p q : PoolValue) → AreSame e.extent p q → AreKept e p → AreKept e q
kept_beside e p q s k = kept_same e p q s.live s.cells k

pub within_beside : (e : ExecutorValue) (p q : PoolValue) → AreSame e.extent p q → KeepsWithin e p → KeepsWithin e q
within_beside e p q s w = within_same e p q s.live s.cells w

-- an extent beside one whose cells were written
pub beside : (e f : Extent) (p q : PoolValue) (cells : List Cell) → q ≡ with_cells p e cells → f.slot ≢ e.slot → IsLive p f → AreSame f p q
beside e f p q cells only ne live =
    subst (λ x. AreSame f p x) (sym only) (record { live = live_other p e f cells live ne; cells = cells_of_other p e f cells ne })

-- a pool in which an extent was written, told by the cells that it has then
pub written_alone : (p q : PoolValue) (e : Extent) (cells : List Cell) → IsLive p e → q ≡ with_cells p e cells → q ≡ with_cells p e (cells_of q e)
written_alone p q e cells live is = is ∙ ap (with_cells p e) (sym (ap (λ (o : PoolValue). cells_of o e) is ∙ cells_of_with p e cells live))
