use Rattle.std.proofs.Common.{ℤ, pos, refl}
use Rattle.sem_query.specs.declared.atom.Element.TheVariants as element
use Rattle.sem_query.specs.Query.{consts_of}
use Rattle.plan_links.specs.Redundant.{Parts}
use Rattle.plan_links.proofs.Searching.{no_more_at, not_any_at, any_at_in}
use Rattle.plan_links.proofs.Gathered.{not_from, const_kept}
use Rattle.plan_links.proofs.redundant.some_const_parts.Goals as goal

pub loop-i-preserved : goal.loop-i-preserved
loop-i-preserved c =
    let k = const_kept c.args.q.now c.consts-consts.result.now c.loop-i.i c.consts-consts.ensures.limits c.consts-consts.ensures.value c.loop-i-test.true in
    no_more_at (λ (k : ℤ). Parts c.args.q.now c.args.p.now.signs.items c.args.x.attr c.args.y.attr (element.Const k)) (consts_of c.args.q.now.atoms) _ c.loop-i.i (pos 0) c.consts-consts.ensures.value c.loop-i-test.true c.loop-i.invariant (rw k at (rw c.with_node.ensures.element at (not_from _ c.parts.ensures.1 c.if-parts.false)))

pub returns-then-parts : goal.returns-then-parts
returns-then-parts c =
    let k = const_kept c.args.q.now c.consts-consts.result.now c.loop-i.i c.consts-consts.ensures.limits c.consts-consts.ensures.value c.loop-i-test.true in
    ((λ h. any_at_in (λ (k : ℤ). Parts c.args.q.now c.args.p.now.signs.items c.args.x.attr c.args.y.attr (element.Const k)) (consts_of c.args.q.now.atoms) _ c.loop-i.i (pos 0) c.consts-consts.ensures.value c.loop-i-test.true (rw k at (rw c.with_node.ensures.element at (c.parts.ensures.0 c.if-parts.true)))), (λ a. refl))

pub returns : goal.returns
returns c = ((λ h. cc), (λ w. absurd (not_any_at (λ (k : ℤ). Parts c.args.q.now c.args.p.now.signs.items c.args.x.attr c.args.y.attr (element.Const k)) (consts_of c.args.q.now.atoms) _ c.loop-i.i c.consts-consts.ensures.value c.loop-i-test.false c.loop-i.invariant w)))
