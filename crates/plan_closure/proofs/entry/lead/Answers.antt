use Rattle.std.proofs.Common.{arith}
use Rattle.plan_closure.proofs.Rows.{lead_better, lead_none}
use Rattle.plan_closure.proofs.entry.lead.Goals as goal
use Rattle.plan_closure.proofs.entry.lead.Goals.{in-Some, in_default}

pub loop-j-preserved : goal.loop-j-preserved
loop-j-preserved c = (
  c.match-entries-right.array_long,
  elim c.match-entries-right.branch [
    | in-Some w ↦ rw w.entries-is (lead_better c.args.entries.now c.loop-j.entries c.args.row c.args.right c.loop-j.j c.args.head w.in-Some.after _ _ _ c.requires.apart (omega (arith, c.loop-j.invariant.0)) (omega (arith, c.loop-j.invariant.0)) (omega arith) c.loop-j.invariant.1 w.in-Some.is w.better.ensures)
    | in_default w ↦ rw w.entries-is (lead_none c.args.entries.now c.loop-j.entries c.args.row c.args.right c.loop-j.j c.args.head _ c.requires.apart (omega (arith, c.loop-j.invariant.0)) (omega arith) c.loop-j.invariant.1 w.in_default.is)
  ],
)
