use Rattle.std.proofs.Common.{refl}
use Rattle.sem_query.specs.declared.atom.Attr.{Attr}
use Rattle.sem_query.specs.Query.{attrs_of}
use Rattle.sem_query.specs.declared.atom.Element.TheVariants as element
use Rattle.cert_checker.specs.OnLeaf.{LiesBetween}
use Rattle.cert_checker.proofs.Searching.{no_more_at, not_any_at, any_at_in, not_from}
use Rattle.cert_checker.proofs.links.some_attr_between.Goals as goal

pub loop-i-preserved : goal.loop-i-preserved
loop-i-preserved c =
    no_more_at (λ (a : Attr). LiesBetween c.args.leaf.now.query.now c.args.leaf.now.signs.now c.args.x c.args.y (element.Attr a)) (attrs_of c.args.leaf.now.query.now.atoms) _ c.loop-i.i _ c.attrs-attrs.ensures.value c.loop-i-test.true c.loop-i.invariant (not_from _ c.lies_between.ensures.1 c.if-lies_between.false)

pub returns-then-lies_between : goal.returns-then-lies_between
returns-then-lies_between c = (
  (λ h. any_at_in (λ (a : Attr). LiesBetween c.args.leaf.now.query.now c.args.leaf.now.signs.now c.args.x c.args.y (element.Attr a)) (attrs_of c.args.leaf.now.query.now.atoms) _ c.loop-i.i _ c.attrs-attrs.ensures.value c.loop-i-test.true (c.lies_between.ensures.0 c.if-lies_between.true)),
  (λ a. refl),
)

pub returns : goal.returns
returns c = (
  (λ h. cc),
  (λ w. absurd (not_any_at (λ (a : Attr). LiesBetween c.args.leaf.now.query.now c.args.leaf.now.signs.now c.args.x c.args.y (element.Attr a)) (attrs_of c.args.leaf.now.query.now.atoms) _ c.loop-i.i c.attrs-attrs.ensures.value c.loop-i-test.false c.loop-i.invariant w)),
)
