use Rattle.std.proofs.Common.{◌<◌, List, length, subst, refl}
use Rattle.sem_query.specs.declared.atom.Attr.{Attr}
use Rattle.sem_query.specs.declared.atom.Element.TheVariants as element
use Rattle.sem_query.specs.Query.{attrs_of}
use Rattle.plan_links.specs.Redundant.{LiesBetween}
use Rattle.plan_links.proofs.Searching.{no_more, not_any_at, any_at}
use Rattle.plan_links.proofs.Gathered.{not_from}
use Rattle.plan_links.proofs.redundant.some_attr_between.Goals as goal

pub loop-i-preserved : goal.loop-i-preserved
loop-i-preserved c =
    let d : Attr = record { stream = 0; column = 0 } in
    let l : c.loop-i.i < length (attrs_of c.args.q.now.atoms) = subst (λ (z : List Attr). c.loop-i.i < length z) c.attrs-attrs.ensures.value c.loop-i-test.true in
    no_more (λ (a : Attr). LiesBetween c.args.q.now c.args.p.now.signs.items c.args.x.attr c.args.y.attr (element.Attr a)) (attrs_of c.args.q.now.atoms) c.loop-i.i d l c.loop-i.invariant (rw (c.as_element.ensures.element, c.named_at.ensures.attr d) at (not_from _ c.lies_between.ensures.1 c.if-lies_between.false))

pub returns-then-lies_between : goal.returns-then-lies_between
returns-then-lies_between c =
    let d : Attr = record { stream = 0; column = 0 } in
    let l : c.loop-i.i < length (attrs_of c.args.q.now.atoms) = subst (λ (z : List Attr). c.loop-i.i < length z) c.attrs-attrs.ensures.value c.loop-i-test.true in (
      (λ h. any_at (λ (a : Attr). LiesBetween c.args.q.now c.args.p.now.signs.items c.args.x.attr c.args.y.attr (element.Attr a)) (attrs_of c.args.q.now.atoms) c.loop-i.i d l (rw (c.as_element.ensures.element, c.named_at.ensures.attr d) at (c.lies_between.ensures.0 c.if-lies_between.true))),
      (λ a. refl),
    )

pub returns : goal.returns
returns c = (
  (λ h. cc),
  (λ w. absurd (not_any_at (λ (a : Attr). LiesBetween c.args.q.now c.args.p.now.signs.items c.args.x.attr c.args.y.attr (element.Attr a)) (attrs_of c.args.q.now.atoms) _ c.loop-i.i c.attrs-attrs.ensures.value c.loop-i-test.false c.loop-i.invariant w)),
)
