use Rattle.std.proofs.Common.{ℤ, pos, refl}
use Rattle.sem_query.specs.declared.atom.Element.TheVariants as element
use Rattle.sem_query.specs.Query.{consts_of}
use Rattle.cert_checker.specs.OnLeaf.{KeepsApart}
use Rattle.cert_checker.proofs.Searching.{no_more_at, not_any_at, any_at_in, not_from}
use Rattle.cert_checker.proofs.LeafRefs.{const_kept}
use Rattle.cert_checker.proofs.links.some_const_apart.Goals as goal

pub loop-i-preserved : goal.loop-i-preserved
loop-i-preserved c =
    let k = const_kept c.args.leaf.now.query.now c.consts-consts.result.now c.loop-i.i c.consts-consts.ensures.limits c.consts-consts.ensures.value c.loop-i-test.true in
    no_more_at (λ (k : ℤ). KeepsApart c.args.leaf.now.query.now c.args.leaf.now.signs.now c.args.x c.args.y (element.Const k)) (consts_of c.args.leaf.now.query.now.atoms) _ c.loop-i.i (pos 0) c.consts-consts.ensures.value c.loop-i-test.true c.loop-i.invariant (rw k at (not_from _ c.keeps_apart.ensures.1 c.if-keeps_apart.false))

pub returns-then-keeps_apart : goal.returns-then-keeps_apart
returns-then-keeps_apart c =
    let k = const_kept c.args.leaf.now.query.now c.consts-consts.result.now c.loop-i.i c.consts-consts.ensures.limits c.consts-consts.ensures.value c.loop-i-test.true in
    ((λ h. any_at_in (λ (k : ℤ). KeepsApart c.args.leaf.now.query.now c.args.leaf.now.signs.now c.args.x c.args.y (element.Const k)) (consts_of c.args.leaf.now.query.now.atoms) _ c.loop-i.i (pos 0) c.consts-consts.ensures.value c.loop-i-test.true (rw k at (c.keeps_apart.ensures.0 c.if-keeps_apart.true))), (λ a. refl))

pub returns : goal.returns
returns c = ((λ h. cc), (λ w. absurd (not_any_at (λ (k : ℤ). KeepsApart c.args.leaf.now.query.now c.args.leaf.now.signs.now c.args.x c.args.y (element.Const k)) (consts_of c.args.leaf.now.query.now.atoms) _ c.loop-i.i c.consts-consts.ensures.value c.loop-i-test.false c.loop-i.invariant w)))
