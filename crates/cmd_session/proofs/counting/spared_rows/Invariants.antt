use Rattle.std.proofs.Common.{◌-◌, ◌<◌, ◌≤◌, length}
use Rattle.cmd_session.specs.Counted.{AreSparedRows}
use Rattle.cmd_session.proofs.counting.spared_rows.Given as goal

abbrev pub invariant-counting : goal.invariant-counting
invariant-counting l = record {
  rows : AreSparedRows l.streams.streams l.streams.opened l.registry.live l.text l.rows.count l.rows.begin l.rows.end;
  within : l.rows.end < length l.text;
  few : l.rows.count ≤ l.most;
}

abbrev pub decreases-counting : goal.decreases-counting
decreases-counting l = l.most - l.rows.count
