-- What callers use: an executor beside changes of other extents of the pool.
use Rattle.std.proofs.Common.{◌≡◌, ◌≢◌, List, sym, ap, ◌∙◌, subst, take, drop}
use Rattle.sem_query.specs.declared.cell.Cell.{Cell}
use Rattle.sem_query.specs.Sharing.{sizes_in}
use Rattle.sem_query.specs.Combinations.{read_from}
use Rattle.exec_saturation.specs.Known.{AreSaturated}
use Rattle.exec_synopsis.specs.Premises.{AreFitting}
use Rattle.exec_pool.specs.declared.pool.Extent.{Extent}
use Rattle.exec_pool.specs.Extents.{PoolValue, cells_of, with_cells, IsLive}
use Rattle.exec_pool.proofs.CallerLemmas.{cells_of_other, live_other}
use Rattle.exec_query.specs.Executor.{ExecutorValue, parts_in, list_in, cells_in, tuples_in}
use Rattle.exec_query.specs.Standing.{CountsUpto, AreKept, KeepsWithin}

pub kept_same : (e : ExecutorValue) (p o : PoolValue) → IsLive o e.extent → cells_of o e.extent ≡ cells_of p e.extent → AreKept e p → AreKept e o
kept_same e p o live same k =
    let cut : cells_in e p ≡ cells_in e o = ap (take (sizes_in (list_in e))) (sym same) in
    record {
      live = live;
      fitting = λ part c. subst (λ (cs : List Cell). AreFitting part (read_from cs)) cut (k.fitting part c);
      counts = λ part c place i l s. subst (λ (cs : List Cell). CountsUpto e.given (read_from cs part place i)) cut (k.counts part c place i l s);
      saturated = λ d. subst (λ (cs : List Cell). AreSaturated e.saturation e.query (parts_in e) (read_from cs) (tuples_in e)) cut (k.saturated d);
    }

pub within_same : (e : ExecutorValue) (p o : PoolValue) → IsLive o e.extent → cells_of o e.extent ≡ cells_of p e.extent → KeepsWithin e p → KeepsWithin e o
within_same e p o live same w = record {
  live = live;
  pages = w.pages;
  rest = ap (drop (sizes_in (list_in e))) same ∙ w.rest;
  room = w.room;
  entries = w.entries;
  ascends = w.ascends;
}

pub kept_beside : (e : ExecutorValue) (p : PoolValue) (f : Extent) (xs : List Cell) → e.extent.slot ≢ f.slot → AreKept e p → AreKept e (with_cells p f xs)
kept_beside e p f xs ne k =
    kept_same e p (with_cells p f xs) (live_other p f e.extent xs k.live ne) (cells_of_other p f e.extent xs ne) k
