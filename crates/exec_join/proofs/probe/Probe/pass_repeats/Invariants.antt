use Rattle.std.proofs.Common.{◌≤◌}
use Rattle.sem_query.specs.Combinations.{Reading}
use Rattle.exec_join.specs.Remaining.{left_of, reads_left, turns_left, IsUnderway}
use Rattle.exec_join.specs.Repeats.{ArePassed}
use Rattle.exec_join.proofs.probe.Probe.pass_repeats.Given as goal

abbrev pub invariant-levels : goal.invariant-levels
invariant-levels l = record {
  underway : IsUnderway l.part l.self;
  left : (read : Reading) → ArePassed l.q.distinct l.tuple.items (left_of l.q.select l.part read l.fn.self) (left_of l.q.select l.part read l.self);
  reads : reads_left l.part l.self ≤ reads_left l.part l.fn.self;
}

abbrev pub decreases-levels : goal.decreases-levels
decreases-levels l = turns_left l.part l.self
