use Rattle.std.proofs.Common.{◌≡◌, ◌-◌, length, true}
use Rattle.std.specs.Option.{IfSome}
use Rattle.exec_part_index.specs.declared.shift.CellAt.{CellAt}
use Rattle.exec_part_index.specs.Shifts.{StandsAt}
use Rattle.exec_part_index.specs.Leaving.{IsOnChain}
use Rattle.exec_query.proofs.PassedOver.{HaveDone}
use Rattle.exec_query.proofs.route.apply_along.Given as goal

abbrev pub invariant-parts : goal.invariant-parts
invariant-parts g l = record {
  done : HaveDone l.led.q.now l.led.parts.now l.led.extent.now l.led.pos l.led.row.now.items l.fn.pool l.fn.table l.fn.steps l.i l.pool l.table l.steps;
  same : l.same ≡ true → l.pool ≡ l.fn.pool;
  chain : IsOnChain l.led.q.now l.led.parts.now l.led.part_index.now l.led.row.now.items l.i;
  told : IfSome l.told (λ (cell : CellAt). StandsAt l.led.q.now l.led.parts.now l.led.pos l.led.row.now.items l.i cell);
}

abbrev pub decreases-parts : goal.decreases-parts
decreases-parts g l = length l.led.parts.now - l.i
