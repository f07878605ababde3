use Rattle.std.proofs.Common.{refl}
use Rattle.sem_query.specs.declared.atom.Attr.{Attr}
use Rattle.sem_query.specs.Query.{attrs_of}
use Rattle.sem_query.specs.Links.{IsEquality}
use Rattle.cert_checker.proofs.Searching.{no_more_at, not_any_at, any_at_in, not_from}
use Rattle.cert_checker.proofs.links.has_equality.Goals as goal

pub loop-i-preserved : goal.loop-i-preserved
loop-i-preserved c =
    no_more_at (λ (a : Attr). IsEquality c.args.leaf.now.query.now c.args.leaf.now.signs.now c.args.attr a) (attrs_of c.args.leaf.now.query.now.atoms) _ c.loop-i.i _ c.attrs-attrs.ensures.value c.loop-i-test.true c.loop-i.invariant (not_from _ c.is_equality.ensures.1 c.if-is_equality.false)

pub returns-then-is_equality : goal.returns-then-is_equality
returns-then-is_equality c = (
  (λ h. any_at_in (λ (a : Attr). IsEquality c.args.leaf.now.query.now c.args.leaf.now.signs.now c.args.attr a) (attrs_of c.args.leaf.now.query.now.atoms) _ c.loop-i.i _ c.attrs-attrs.ensures.value c.loop-i-test.true (c.is_equality.ensures.0 c.if-is_equality.true)),
  (λ a. refl),
)

pub returns : goal.returns
returns c = (
  (λ h. cc),
  (λ w. absurd (not_any_at (λ (a : Attr). IsEquality c.args.leaf.now.query.now c.args.leaf.now.signs.now c.args.attr a) (attrs_of c.args.leaf.now.query.now.atoms) _ c.loop-i.i c.attrs-attrs.ensures.value c.loop-i-test.false c.loop-i.invariant w)),
)
