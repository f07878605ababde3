use Rattle.std.proofs.Common.{arith}
use Rattle.sem_query.proofs.Has.{Has-from_contains}
use Rattle.plan_constraints.proofs.NodeFacts.{place_below}
use Rattle.fam_motions.proofs.values.keeps_to.Goals as goal

pub returns-else-place_of-attrs : goal.returns-else-place_of-attrs
returns-else-place_of-attrs c t h =
    absurd (let l = place_below c.args.attrs.now c.args.domain.now.attr (Has-from_contains c.args.attrs.now c.args.domain.now.attr h) in let e = c.place_of.ensures.value in let p = c.if-place_of-attrs.false in omega (arith, l, e, p))
