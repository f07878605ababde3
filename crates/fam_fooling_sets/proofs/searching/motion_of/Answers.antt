use Rattle.std.proofs.Common.{rules, refl, ap, arith, length}
use Rattle.std.specs.Int.{w128}
use Rattle.std.proofs.lemmas.Int.{to_z-of_z}
use Rattle.fam_fooling_sets.proofs.Motions.{motion-made, ends-made}
use Rattle.fam_fooling_sets.proofs.searching.motion_of.Goals as goal

pub returns : goal.returns
returns c = record {
  motion = motion-made c.args.q.now c.args.p.now.signs.items c.args.bounds.now c.node_of_attr.result c.first_solution-values.result.items c.consts.result.now _ c.requires.tighter c.first_solution-values.ensures refl
      (let f = c.as_slice.ensures.fits in let e = ap length c.as_slice.ensures.value in omega (arith, f, e)) (let l = c.ranges.n.fits in omega (arith, l)) c.consts.ensures.value
      c.ends_of-ends.result c.ends_of-ends.ensures.ends (to_z-of_z w128 c.ends_of-ends.result.low (search rules)) (to_z-of_z w128 c.ends_of-ends.result.high (search rules));
  size = refl;
  solves = c.first_solution-values.ensures.solved.solves;
  no_lower = refl;
  no_upper = refl;
  ends = ends-made c.consts.result.now _ c.as_slice.result.now _ c.ends_of-ends.result _ _ c.consts.ensures.value c.as_slice.ensures.value
      (to_z-of_z w128 c.ends_of-ends.result.low (search rules)) (to_z-of_z w128 c.ends_of-ends.result.high (search rules)) c.ends_of-ends.ensures.near;
}
