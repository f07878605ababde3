use Rattle.std.proofs.Common.{refl}
use Rattle.sem_query.specs.declared.atom.Attr.{Attr}
use Rattle.sem_query.specs.Query.{attrs_of}
use Rattle.cert_checker.specs.OnLeaf.{IsLinked}
use Rattle.cert_checker.proofs.Searching.{no_more_at, not_any_at, any_at_in, not_from}
use Rattle.cert_checker.proofs.links.has_link.Goals as goal

pub loop-i-preserved : goal.loop-i-preserved
loop-i-preserved c =
    no_more_at (λ (a : Attr). IsLinked c.args.leaf.now.query.now c.args.leaf.now.signs.now c.args.side c.args.attr a) (attrs_of c.args.leaf.now.query.now.atoms) _ c.loop-i.i _ c.attrs-attrs.ensures.value c.loop-i-test.true c.loop-i.invariant (not_from _ c.is_linked.ensures.1 c.if-is_linked.false)

pub returns-then-is_linked : goal.returns-then-is_linked
returns-then-is_linked c = (
  (λ h. any_at_in (λ (a : Attr). IsLinked c.args.leaf.now.query.now c.args.leaf.now.signs.now c.args.side c.args.attr a) (attrs_of c.args.leaf.now.query.now.atoms) _ c.loop-i.i _ c.attrs-attrs.ensures.value c.loop-i-test.true (c.is_linked.ensures.0 c.if-is_linked.true)),
  (λ a. refl),
)

pub returns : goal.returns
returns c = (
  (λ h. cc),
  (λ w. absurd (not_any_at (λ (a : Attr). IsLinked c.args.leaf.now.query.now c.args.leaf.now.signs.now c.args.side c.args.attr a) (attrs_of c.args.leaf.now.query.now.atoms) _ c.loop-i.i c.attrs-attrs.ensures.value c.loop-i-test.false c.loop-i.invariant w)),
)
