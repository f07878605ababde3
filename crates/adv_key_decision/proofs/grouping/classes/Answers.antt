use Rattle.std.proofs.Common.{◌≡◌, ◌<◌, List, length, take, ap, subst, refl, arith}
use Rattle.std.proofs.lemmas.List.{length-take-le}
use Rattle.sem_query.specs.declared.atom.Attr.{Attr}
use Rattle.sem_query.specs.Query.{attrs_of}
use Rattle.adv_key_decision.specs.Equal.{NamesClass}
use Rattle.plan_closure.proofs.Zips.{zip_length, zip_more_at}
use Rattle.adv_key_decision.proofs.OneClass.{no-attr}
use Rattle.adv_key_decision.proofs.grouping.classes.Goals as goal

pub push-requires : goal.push-requires
push-requires c =
    let e : length c.attrs-attrs.result.now ≡ length (attrs_of c.args.q.now.atoms) = ap length c.attrs-attrs.ensures.value in
    let a : length c.loop-i.list.items ≡ length (take c.loop-i.i (attrs_of c.args.q.now.atoms)) = zip_length (NamesClass c.args.q.now) _ _ c.loop-i.invariant in
    let b : length (take c.loop-i.i (attrs_of c.args.q.now.atoms)) ≡ c.loop-i.i = length-take-le c.loop-i.i (attrs_of c.args.q.now.atoms) (omega (arith, e)) in
    (omega arith, omega (arith, a, b, e, c.attrs-attrs.ensures.limits.few_attrs))

pub loop-i-preserved : goal.loop-i-preserved
loop-i-preserved c =
    let l : c.loop-i.i < length (attrs_of c.args.q.now.atoms) = subst (λ (z : List Attr). c.loop-i.i < length z) c.attrs-attrs.ensures.value c.loop-i-test.true in
    zip_more_at (NamesClass c.args.q.now) (attrs_of c.args.q.now.atoms) (attrs_of c.args.q.now.atoms) _ _ c.loop-i.i no-attr _ refl l c.loop-i.invariant (c.class_at.ensures no-attr) c.push.ensures.items
