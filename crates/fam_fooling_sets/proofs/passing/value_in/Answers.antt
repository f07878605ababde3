use Rattle.fam_fooling_sets.proofs.Motions.{place-bound}
use Rattle.fam_fooling_sets.proofs.passing.value_in.Goals as goal

pub bounds-values-place : goal.bounds-values-place
bounds-values-place c =
    place-bound c.args.q.now c.args.p.now.signs.items c.args.motion.now c.requires.motion c.args.attr c.requires.named c.attrs.result.now c.attrs.ensures.value c.place_of-place.result c.place_of-place.ensures.value
    c.as_slice-values.result.now c.as_slice-values.ensures.value
