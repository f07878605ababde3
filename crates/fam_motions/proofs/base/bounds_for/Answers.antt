use Rattle.plan_constraints.proofs.Sides.{left_element, right_element}
use Rattle.fam_motions.proofs.base.bounds_for.Goals as goal

pub add_sign-requires-clause-left : goal.add_sign-requires-clause-left
add_sign-requires-clause-left c = left_element c.args.q.now _ c.loop-atom.atom-index _ c.atoms-atom-items.ensures.value c.loop-atom-test.true

pub add_sign-requires-clause-right : goal.add_sign-requires-clause-right
add_sign-requires-clause-right c = right_element c.args.q.now _ c.loop-atom.atom-index _ c.atoms-atom-items.ensures.value c.loop-atom-test.true
