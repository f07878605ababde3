use Rattle.std.proofs.Common.{◌≡◌, ◌+◌, ◌-◌, ◌≤◌}
use Rattle.exec_pool.specs.Places.{cell_at}
use Rattle.exec_pool.specs.Strides.{NoneOccupied}
use Rattle.exec_pool.proofs.scan.first_beside.Given as goal

abbrev pub invariant-pages : goal.invariant-pages
invariant-pages g l = record {
  after : l.from ≤ l.i;
  within : l.i ≤ l.to;
  empty : NoneOccupied (λ i. cell_at l.cells.cells l.page_table l.slot (l.first + i)) l.from l.i;
  reads : l.steps.reads + l.from ≡ l.fn.steps.reads + l.i;
  writes : l.steps.writes ≡ l.fn.steps.writes;
}

abbrev pub decreases-pages : goal.decreases-pages
decreases-pages g l = l.to - l.i
