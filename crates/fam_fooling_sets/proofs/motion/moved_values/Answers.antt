use Rattle.std.proofs.Common.{rules, ◌≡◌, ◌<◌, List, length, slice_index_or, pos, subst, to_z, of_z, ℤ}
use Rattle.std.specs.Int.{w128}
use Rattle.fam_fooling_sets.specs.Moving as moving
use Rattle.fam_fooling_sets.proofs.Moving.{map-more}
use Rattle.fam_fooling_sets.proofs.motion.moved_values.Goals as goal

pub loop-i-preserved : goal.loop-i-preserved
loop-i-preserved c =
    let r : to_z w128 (of_z w128 c.moved.result) ≡ moving.moved c.args.motion.now c.args.number (slice_index_or c.args.motion.now.values.items c.loop-i.i (pos 0)) = search rules in
    map-more (moving.moved c.args.motion.now c.args.number) c.args.motion.now.values.items c.loop-i.i c.loop-i.list.items _ _
    (subst (λ (ys : List ℤ). c.loop-i.i < length ys) c.as_slice-values.ensures.value c.loop-i-test.true) c.loop-i.invariant c.push.ensures.items r
