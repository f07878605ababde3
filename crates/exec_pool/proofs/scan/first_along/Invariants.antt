use Rattle.std.proofs.Common.{◌≡◌, ◌+◌, ◌-◌, ◌*◌, ◌≤◌}
use Rattle.exec_pool.specs.Places.{cell_at}
use Rattle.exec_pool.specs.Strides.{NoneOccupied}
use Rattle.exec_pool.proofs.scan.first_along.Given as goal

abbrev pub invariant-cells : goal.invariant-cells
invariant-cells g l = record {
  after : l.from ≤ l.i;
  within : l.i ≤ l.to;
  empty : NoneOccupied (λ i. cell_at l.cells.cells l.page_table l.slot (l.strided.first + i * l.strided.stride)) l.from l.i;
  reads : l.steps.reads + l.from ≡ l.fn.steps.reads + l.i;
  writes : l.steps.writes ≡ l.fn.steps.writes;
}

abbrev pub decreases-cells : goal.decreases-cells
decreases-cells g l = l.to - l.i
