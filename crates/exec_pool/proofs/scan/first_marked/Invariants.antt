use Rattle.std.proofs.Common.{◌≡◌, ◌⊎◌, ◌+◌, ◌-◌, ◌≤◌, ◌%◌}
use Rattle.exec_pool.specs.Places.{cell_at}
use Rattle.exec_pool.specs.Strides.{NoneOccupied, words_over}
use Rattle.exec_pool.proofs.scan.first_marked.Given as goal

abbrev pub invariant-pages : goal.invariant-pages
invariant-pages g l = record {
  within : l.i ≤ l.count;
  empty : NoneOccupied (λ i. cell_at l.cells.cells l.page_table l.slot (l.first + i)) 0 l.i;
  page : (l.i ≡ 0) ⊎ ((l.i ≡ l.count) ⊎ ((l.first + l.i) % 64 ≡ 0));
  reads : l.steps.reads ≡ l.fn.steps.reads + words_over l.first l.i;
  writes : l.steps.writes ≡ l.fn.steps.writes;
}

abbrev pub decreases-pages : goal.decreases-pages
decreases-pages g l = l.count - l.i
