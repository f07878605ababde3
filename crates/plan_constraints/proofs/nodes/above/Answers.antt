use Rattle.std.proofs.Common.{pos, neg_ℤ, ◌≤ℤ◌, arith}
use Rattle.std.proofs.lemmas.Int.{ints}
use Rattle.plan_constraints.specs.Nodes.{offset_of}
use Rattle.plan_constraints.proofs.NodeFacts.{offset_low, offset_high, constraint_is}
use Rattle.plan_constraints.proofs.nodes.above.Goals as goal

pub returns : goal.returns
returns c =
    let l1 : neg_ℤ (pos 999999999999999) ≤ℤ offset_of c.args.left = offset_low c.args.left c.requires.left in
    let l2 : offset_of c.args.left ≤ℤ pos 999999999999999 = offset_high c.args.left c.requires.left in
    let r1 : neg_ℤ (pos 999999999999999) ≤ℤ offset_of c.args.right = offset_low c.args.right c.requires.right in
    let r2 : offset_of c.args.right ≤ℤ pos 999999999999999 = offset_high c.args.right c.requires.right in
    constraint_is _ _ _ _ _ _ c.node.ensures.value c.node-2.ensures.value (omega (arith, ints, c.difference.ensures))
