use Rattle.std.proofs.Common.{rules, ◌≡◌, ◌∙◌, to_z, of_z}
use Rattle.std.specs.Int.{w128}
use Rattle.std.proofs.lemmas.Int.{to_z-of_z}
use Rattle.fam_fooling_sets.proofs.Motions.{moved-many, moved-far, moved-value}
use Rattle.fam_fooling_sets.proofs.point.moved_member.Goals as goal

pub row_at-requires-clause-point : goal.row_at-requires-clause-point
row_at-requires-clause-point c =
    let same = c.as_slice-values.ensures.value ∙ c.moved_values-values.ensures in
    let w : to_z w128 (of_z w128 c.named_value.result) ≡ c.named_value.result = to_z-of_z w128 c.named_value.result (search rules) in
    record {
      many = moved-many c.args.ground.now c.args.motion.now c.args.own c.args.number c.requires.motion c.requires.number c.as_slice-values.result.now same;
      values = moved-far c.args.ground.now c.args.motion.now c.args.own c.args.number c.requires.motion c.requires.number c.as_slice-values.result.now same;
      value = moved-value c.args.ground.now c.args.motion.now c.args.own c.args.number c.requires.motion c.requires.number c.as_slice-values.result.now same _ (w ∙ c.named_value.ensures);
    }

pub asked_at-requires-clause-point : goal.asked_at-requires-clause-point
asked_at-requires-clause-point c =
    let same = c.as_slice-values.ensures.value ∙ c.moved_values-values.ensures in
    let w : to_z w128 (of_z w128 c.named_value.result) ≡ c.named_value.result = to_z-of_z w128 c.named_value.result (search rules) in
    record {
      many = moved-many c.args.ground.now c.args.motion.now c.args.own c.args.number c.requires.motion c.requires.number c.as_slice-values.result.now same;
      values = moved-far c.args.ground.now c.args.motion.now c.args.own c.args.number c.requires.motion c.requires.number c.as_slice-values.result.now same;
      value = moved-value c.args.ground.now c.args.motion.now c.args.own c.args.number c.requires.motion c.requires.number c.as_slice-values.result.now same _ (w ∙ c.named_value.ensures);
    }
