use Rattle.std.proofs.Common.{rules, ◌≡◌, ◌∙◌, to_z, of_z}
use Rattle.std.specs.Int.{w128}
use Rattle.std.proofs.lemmas.Int.{to_z-of_z}
use Rattle.fam_fooling_sets.proofs.Moving.{above-is, below-is}
use Rattle.fam_fooling_sets.proofs.motion.moved.Goals as goal

pub returns-then-motion-value : goal.returns-then-motion-value
returns-then-motion-value c =
    let w : to_z w128 (of_z w128 c.above.result) ≡ c.above.result = to_z-of_z w128 c.above.result (search rules) in
    w ∙ above-is c.args.motion.now c.requires.motion c.args.number c.args.value (search rules) c.above.result c.rank_above.result c.reach-far.result (search rules) (search rules) (search rules)

pub returns-then-value-motion : goal.returns-then-value-motion
returns-then-value-motion c =
    let w : to_z w128 (of_z w128 c.below.result) ≡ c.below.result = to_z-of_z w128 c.below.result (search rules) in
    w ∙ below-is c.args.motion.now c.requires.motion c.args.number c.args.value (search rules) c.below.result c.rank_below.result c.reach-far-then-value-motion.result (search rules) (search rules) (search rules)
