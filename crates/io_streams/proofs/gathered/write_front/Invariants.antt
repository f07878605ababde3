use Rattle.std.proofs.Common.{◌-◌, ◌≤◌, length, take}
use Rattle.io_streams.specs.Sink.{Wrote}
use Rattle.io_streams.proofs.gathered.write_front.Given as goal

abbrev pub invariant-writing : goal.invariant-writing
invariant-writing g l = record {
  within : l.written ≤ length l.text;
  wrote : Wrote (g.O.Sink.seen l.fn.out) (g.O.Sink.seen l.out) (take l.written l.text);
}

abbrev pub decreases-writing : goal.decreases-writing
decreases-writing g l = length l.text - l.written
