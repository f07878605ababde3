use Rattle.adv_mends.proofs.Halving.{short_sides, range_step}
use Rattle.adv_mends.proofs.narrowing.range_of.Goals as goal

pub cut_by-range-requires : goal.cut_by-range-requires
cut_by-range-requires c =
    short_sides c.args.query.now c.atoms-atom-items.result.now c.atoms.atom-index _ c.atoms-atom-items.ensures.limits c.atoms-atom-items.ensures.value c.atoms-test.true

pub atoms-preserved : goal.atoms-preserved
atoms-preserved c = range_step c.atoms.range c.cut_by-range.result _ c.atoms-atom-items.result.now c.atoms.atom-index _ c.atoms-test.true c.cut_by-range.ensures c.atoms.invariant
