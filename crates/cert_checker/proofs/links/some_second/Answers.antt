use Rattle.std.proofs.Common.{refl}
use Rattle.sem_query.specs.declared.atom.Attr.{Attr}
use Rattle.sem_query.specs.Query.{attrs_of}
use Rattle.cert_checker.specs.OnLeaf.{IsSecond}
use Rattle.cert_checker.proofs.Searching.{no_more_at, not_any_at, any_at_in, not_from}
use Rattle.cert_checker.proofs.links.some_second.Goals as goal

pub loop-i-preserved : goal.loop-i-preserved
loop-i-preserved c =
    no_more_at (λ (a : Attr). IsSecond c.args.leaf.now.query.now c.args.leaf.now.signs.now c.args.side c.args.attr a) (attrs_of c.args.leaf.now.query.now.atoms) _ c.loop-i.i _ c.attrs-attrs.ensures.value c.loop-i-test.true c.loop-i.invariant (not_from _ c.is_second.ensures.1 c.if-is_second.false)

pub returns-then-is_second : goal.returns-then-is_second
returns-then-is_second c = (
  (λ h. any_at_in (λ (a : Attr). IsSecond c.args.leaf.now.query.now c.args.leaf.now.signs.now c.args.side c.args.attr a) (attrs_of c.args.leaf.now.query.now.atoms) _ c.loop-i.i _ c.attrs-attrs.ensures.value c.loop-i-test.true (c.is_second.ensures.0 c.if-is_second.true)),
  (λ a. refl),
)

pub returns : goal.returns
returns c = (
  (λ h. cc),
  (λ w. absurd (not_any_at (λ (a : Attr). IsSecond c.args.leaf.now.query.now c.args.leaf.now.signs.now c.args.side c.args.attr a) (attrs_of c.args.leaf.now.query.now.atoms) _ c.loop-i.i c.attrs-attrs.ensures.value c.loop-i-test.false c.loop-i.invariant w)),
)
