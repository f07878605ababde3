use Rattle.std.proofs.Common.{◌≡◌, ◌<◌, List, length, take, ap, subst, refl, arith}
use Rattle.sem_query.specs.declared.atom.Attr.{Attr}
use Rattle.std.proofs.lemmas.List.{length-take-le}
use Rattle.sem_query.specs.Query.{attrs_of}
use Rattle.plan_links.specs.Refs.{IsClassPlace}
use Rattle.plan_closure.proofs.Zips.{zip_length, zip_more_at}
use Rattle.plan_links.proofs.classes.classes.Goals as goal

pub push-requires : goal.push-requires
push-requires c =
    let xs = attrs_of c.args.q.now.atoms in
    let e : length c.attrs-attrs.result.now ≡ length (attrs_of c.args.q.now.atoms) = ap length c.attrs-attrs.ensures.value in
    let a : length c.loop-i.list.items ≡ length (take c.loop-i.i (attrs_of c.args.q.now.atoms)) = zip_length (IsClassPlace c.args.q.now c.args.p.now.signs.items) _ _ c.loop-i.invariant in
    let b : length (take c.loop-i.i (attrs_of c.args.q.now.atoms)) ≡ c.loop-i.i = length-take-le c.loop-i.i (attrs_of c.args.q.now.atoms) (omega (arith, e)) in
    (omega arith, omega (arith, a, b, e, c.requires.few))

pub loop-i-preserved : goal.loop-i-preserved
loop-i-preserved c =
    let d : Attr = record { stream = 0; column = 0 } in
    let l : c.loop-i.i < length (attrs_of c.args.q.now.atoms) = subst (λ (z : List Attr). c.loop-i.i < length z) c.attrs-attrs.ensures.value c.loop-i-test.true in
    zip_more_at (IsClassPlace c.args.q.now c.args.p.now.signs.items) (attrs_of c.args.q.now.atoms) (attrs_of c.args.q.now.atoms) _ _ c.loop-i.i d _ refl l c.loop-i.invariant (rw (c.named_at.ensures.attr d) at c.class_of.ensures) c.push.ensures.items
