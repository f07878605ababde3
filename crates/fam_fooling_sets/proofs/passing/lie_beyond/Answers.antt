use Rattle.std.proofs.Common.{rules, ◌≡◌, to_z, of_z}
use Rattle.std.specs.Int.{w128}
use Rattle.fam_fooling_sets.specs.Passing.{value_in}
use Rattle.fam_fooling_sets.proofs.Found.{lie-by-right}
use Rattle.fam_fooling_sets.proofs.passing.lie_beyond.Goals as goal

pub returns-else-motion-left : goal.returns-else-motion-left
returns-else-motion-left c =
    let x : to_z w128 (of_z w128 c.value_in-left.result) ≡ value_in c.args.q.now c.args.motion.now c.args.link.left = search rules in
    let y : to_z w128 (of_z w128 c.value_in-right.result) ≡ value_in c.args.q.now c.args.motion.now c.args.link.right = search rules in
    lie-by-right c.args.q.now c.args.motion.now c.args.link.left c.args.link.right _ _ _ _ x y (search rules) (search rules) c.if-motion-left.false
