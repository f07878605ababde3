use Rattle.std.proofs.Common.{rules, ◌≡◌, sym, subst, to_z, of_z}
use Rattle.std.specs.Int.{w128}
use Rattle.std.proofs.lemmas.Int.{to_z-of_z}
use Rattle.fam_fooling_sets.specs.Members.{IsFarWithin}
use Rattle.fam_fooling_sets.proofs.Points.{values-far, values-many}
use Rattle.fam_fooling_sets.proofs.point.member_of.Goals as goal

pub row_at-requires-clause-point : goal.row_at-requires-clause-point
row_at-requires-clause-point c =
    let w : to_z w128 (of_z w128 c.value_of.result) ≡ c.value_of.result = to_z-of_z w128 c.value_of.result (search rules) in
    record {
      many = values-many c.args.ground.now c.requires.ground c.args.number _ _ c.solution-values.ensures c.as_slice.ensures.value;
      values = values-far c.args.ground.now c.requires.ground c.args.number c.ranges.number.fits _ _ c.solution-values.ensures c.as_slice.ensures.value;
      value = subst IsFarWithin (sym w) c.value_of.ensures.within;
    }

pub asked_at-requires-clause-point : goal.asked_at-requires-clause-point
asked_at-requires-clause-point c =
    let w : to_z w128 (of_z w128 c.value_of.result) ≡ c.value_of.result = to_z-of_z w128 c.value_of.result (search rules) in
    record {
      many = values-many c.args.ground.now c.requires.ground c.args.number _ _ c.solution-values.ensures c.as_slice.ensures.value;
      values = values-far c.args.ground.now c.requires.ground c.args.number c.ranges.number.fits _ _ c.solution-values.ensures c.as_slice.ensures.value;
      value = subst IsFarWithin (sym w) c.value_of.ensures.within;
    }
