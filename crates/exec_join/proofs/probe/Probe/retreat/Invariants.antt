use Rattle.std.proofs.Common.{◌≡◌, ◌≤◌, false, length, List}
use Rattle.sem_query.specs.declared.atom.Attr.{Attr}
use Rattle.sem_query.specs.Combinations.{Reading}
use Rattle.exec_join.specs.Remaining.{outer_of, reads_left, turns_left, IsPlaced}
use Rattle.exec_join.proofs.probe.Probe.retreat.Given as goal

abbrev pub invariant-levels : goal.invariant-levels
invariant-levels l = record {
  placed : IsPlaced l.part l.self;
  going : l.self.over ≡ false;
  left : (select : List Attr) (read : Reading) → outer_of select l.part read l.self ≡ outer_of select l.part read l.fn.self;
  reads : reads_left l.part l.self ≤ reads_left l.part l.fn.self;
  turns : turns_left l.part l.self ≤ turns_left l.part l.fn.self;
}

abbrev pub decreases-levels : goal.decreases-levels
decreases-levels l = length l.self.room.now.numbers.items
