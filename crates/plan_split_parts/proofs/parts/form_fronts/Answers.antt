use Rattle.std.proofs.Common.{length, ap, arith}
use Rattle.plan_split_parts.proofs.Unlike.{unlikes_fit}
use Rattle.plan_split_parts.proofs.Listed.{all_parts}
use Rattle.plan_split_parts.proofs.parts.form_fronts.Goals as goal

pub returns-in-Ok-clause-parts : goal.returns-in-Ok-clause-parts
returns-in-Ok-clause-parts c =
    let q = c.args.q.now in
    let e = ap length c.requires.pairs in
    all_parts q c.unlike_pairs-unlikes.ensures.limits (length c.args.pairs.now) (omega (arith, e)) c.in-Ok.fronts.items c.in-Ok.ensures.fronts

pub returns-in-Ok-clause-few : goal.returns-in-Ok-clause-few
returns-in-Ok-clause-few c =
    let q = c.args.q.now in
    let e = ap length c.requires.pairs in
    let u = unlikes_fit q c.unlike_pairs-unlikes.ensures.limits in
    c.in-Ok.ensures.fronts.few (omega (arith, e, u))
