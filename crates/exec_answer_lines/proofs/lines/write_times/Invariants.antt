use Rattle.std.proofs.Common.{◌≡◌, ◌≤◌, ◌-◌, length, drop, replicate}
use Rattle.std.specs.List.{flat_map}
use Rattle.io_streams.specs.Sink.{Wrote}
use Rattle.exec_answer_lines.proofs.lines.write_times.Given as goal

abbrev pub invariant-left : goal.invariant-left
invariant-left g l = record {
  wrote : Wrote (g.O.Sink.seen l.fn.out) (g.O.Sink.seen l.out) (flat_map (λ text. text) (replicate (l.times - l.left) (drop l.start l.fn.room)));
  text : drop l.start l.room ≡ drop l.start l.fn.room;
  left : l.left ≤ l.times;
  len : length l.room ≡ 528;
}

abbrev pub decreases-left : goal.decreases-left
decreases-left g l = l.left
