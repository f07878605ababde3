use Rattle.std.proofs.Common.{arith, ◌/◌, ◌%◌}
use Rattle.std.proofs.Math.ListN.{length-set}
use Rattle.plan_closure.specs.Shortest.{bound_of, IsApart}
use Rattle.plan_closure.proofs.Lowering.{set_more}
use Rattle.plan_closure.proofs.distance.apart.Goals as goal

pub loop-k-preserved : goal.loop-k-preserved
loop-k-preserved c = (
  omega (arith, length-set c.loop-k.table c.loop-k.k c.apart_at.result),
  set_more (λ k o. IsApart (k / 13) (k % 13) (bound_of o)) _ _ _ (omega arith) c.loop-k.invariant.1 c.apart_at.ensures,
)

pub returns : goal.returns
returns c = λ k h. c.loop-k.invariant.1 k (omega arith)
