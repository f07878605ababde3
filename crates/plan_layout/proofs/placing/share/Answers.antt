use Rattle.std.proofs.Common.{arith}
use Rattle.plan_layout.proofs.Standing.{all_shared}
use Rattle.plan_layout.proofs.placing.share.Goals as goal

pub returns : goal.returns
returns c = all_shared c.args.q.now c.args.parts.now c.parts.parts c.parts.boxes c.parts.part (omega arith) c.parts.invariant
