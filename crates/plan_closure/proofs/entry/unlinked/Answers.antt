use Rattle.std.proofs.Common.{arith, ◌/◌, ◌%◌}
use Rattle.std.proofs.Math.ListN.{length-set}
use Rattle.plan_closure.specs.Entries.{IsUnlinked}
use Rattle.plan_closure.proofs.Rows.{set_more}
use Rattle.plan_closure.proofs.entry.unlinked.Goals as goal

pub loop-k-preserved : goal.loop-k-preserved
loop-k-preserved c = (
  omega (arith, length-set c.loop-k.entries c.loop-k.k c.unlinked_at.result),
  set_more (λ k o. IsUnlinked (k / 13) (k % 13) o) _ _ _ (omega arith) c.loop-k.invariant.1 c.unlinked_at.ensures,
)

pub returns : goal.returns
returns c = λ k h. c.loop-k.invariant.1 k (omega arith)
