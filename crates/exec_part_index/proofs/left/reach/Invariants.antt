use Rattle.std.proofs.Common.{◌≡◌, ◌+◌, ◌-◌, ◌≤◌, length}
use Rattle.exec_part_index.specs.Shifts.{StandsAt}
use Rattle.exec_part_index.specs.Leaving.{HasPassed}
use Rattle.exec_part_index.proofs.left.reach.Given as goal

abbrev pub invariant-chain : goal.invariant-chain
invariant-chain g l = record {
  passed : HasPassed l.led.q.now l.led.parts.now l.led.part_index.now l.led.pos l.led.row.now.items l.pool l.led.extent.now l.i l.at;
  stands : StandsAt l.led.q.now l.led.parts.now l.led.pos l.led.row.now.items l.at l.cell;
  reads : l.steps.reads + l.i ≤ l.fn.steps.reads + l.at;
  writes : l.steps.writes ≡ l.fn.steps.writes;
}

abbrev pub decreases-chain : goal.decreases-chain
decreases-chain g l = length l.led.parts.now - l.at
