use Rattle.std.proofs.Common.{◌-◌, ◌≤◌, take}
use Rattle.std.specs.List.{flat_map}
use Rattle.exec_registry.specs.Registry.{waiting_text}
use Rattle.exec_registry.specs.Written.{WroteFirst, GatheredSo}
use Rattle.exec_registry.proofs.BitsLeft.{AreLeft}
use Rattle.exec_registry.proofs.writing.write_each.Given as goal

abbrev pub invariant-bits : goal.invariant-bits
invariant-bits g l = record {
  left : AreLeft l.word l.left l.next;
  few : l.next ≤ 64;
  wrote : WroteFirst l.next l.fn.live l.live;
  gathered : GatheredSo l.gathered (g.O.Sink.seen l.fn.out) (g.O.Sink.seen l.out) l.lines (flat_map waiting_text (take l.next l.fn.live)) (flat_map waiting_text l.fn.live);
}

abbrev pub decreases-bits : goal.decreases-bits
decreases-bits g l = 64 - l.next
