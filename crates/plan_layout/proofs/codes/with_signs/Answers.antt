use Rattle.std.proofs.Common.{arith}
use Rattle.plan_layout.proofs.Coding.{signs_done}
use Rattle.plan_layout.proofs.codes.with_signs.Goals as goal

pub returns : goal.returns
returns c = rw (signs_done c.args.place c.args.pairs.now c.args.signs.now c.signs.i (omega arith)) at c.signs.invariant
