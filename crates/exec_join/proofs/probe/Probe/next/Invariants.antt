use Rattle.std.proofs.Common.{◌≡◌, ◌≤◌, ◌+◌}
use Rattle.sem_query.specs.Combinations.{read_from}
use Rattle.exec_pool.specs.Extents.{cells_of}
use Rattle.exec_join.specs.Remaining.{left_of, reads_left, turns_left, IsUnderway}
use Rattle.exec_join.proofs.probe.Probe.next.Given as goal

abbrev pub invariant-turns : goal.invariant-turns
invariant-turns g l = record {
  underway : IsUnderway l.part l.self;
  left : left_of l.q.select l.part (read_from (cells_of l.pool l.e)) l.fn.self ≡ left_of l.q.select l.part (read_from (cells_of l.pool l.e)) l.self;
  reads : l.steps.reads + reads_left l.part l.self ≤ l.fn.steps.reads + reads_left l.part l.fn.self;
  writes : l.steps.writes ≡ l.fn.steps.writes;
}

abbrev pub decreases-turns : goal.decreases-turns
decreases-turns g l = turns_left l.part l.self
