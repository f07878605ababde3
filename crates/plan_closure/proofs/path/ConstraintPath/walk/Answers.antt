use Rattle.std.proofs.Common.{Some, None, sym, arith}
use Rattle.std.proofs.Math.ListN.{length-set}
use Rattle.plan_closure.proofs.Stored.{zeros_more, stored_at}
use Rattle.plan_closure.proofs.Walks.{walk_step}
use Rattle.plan_closure.proofs.path.ConstraintPath.walk.Goals as goal
use Rattle.plan_closure.proofs.path.ConstraintPath.walk.Goals.{in-Some, in-None}

pub loop-k-preserved : goal.loop-k-preserved
loop-k-preserved c = elim c.match-entry_between.branch [
  | in-Some w ↦ (
    rw w.steps-is (omega (arith, length-set c.loop-k.steps c.loop-k.k w.in-Some.entry.number, c.loop-k.invariant.0)),
    rw (w.steps-is, w.at-is) (walk_step c.args.entries.now c.loop-k.steps c.loop-k.k c.args.length c.loop-k.at c.args.to _ (Some w.in-Some.entry) (omega (arith, c.loop-k.invariant.0)) (omega arith) (sym w.in-Some.ensures) c.loop-k.invariant.1),
    rw w.steps-is (zeros_more c.loop-k.steps c.loop-k.k w.in-Some.entry.number c.loop-k.invariant.2),
  )
  | in-None w ↦ (
    rw w.steps-is (omega (arith, length-set c.loop-k.steps c.loop-k.k 0, c.loop-k.invariant.0)),
    rw (w.steps-is, w.at-is) (walk_step c.args.entries.now c.loop-k.steps c.loop-k.k c.args.length c.loop-k.at c.args.to _ None (omega (arith, c.loop-k.invariant.0)) (omega arith) (sym w.in-None.ensures) c.loop-k.invariant.1),
    rw w.steps-is (zeros_more c.loop-k.steps c.loop-k.k 0 c.loop-k.invariant.2),
  )
]

pub invariant_of-result : goal.invariant_of-result
invariant_of-result c = stored_at c.loop-k.steps c.loop-k.k _ (omega arith) (omega arith) c.loop-k.invariant.0 c.loop-k.invariant.2
