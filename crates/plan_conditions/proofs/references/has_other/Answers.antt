use Rattle.std.proofs.Common.{refl}
use Rattle.std.proofs.lemmas.List.Elements.{Contains-get_or}
use Rattle.plan_links.proofs.Searching.{no_more, not_any, any_at}
use Rattle.plan_links.proofs.Gathered.{not_from}
use Rattle.plan_conditions.specs.Deciding.{IsOther}
use Rattle.plan_conditions.proofs.references.has_other.Goals as goal

pub is_other-requires-clause-right : goal.is_other-requires-clause-right
is_other-requires-clause-right c = c.requires.columns.named _ (Contains-get_or c.args.columns.now c.loop-i.i _ c.loop-i-test.true)

pub loop-i-preserved : goal.loop-i-preserved
loop-i-preserved c = no_more (IsOther c.args.q.now c.args.p.now.signs.items c.args.attr) c.args.columns.now c.loop-i.i _ c.loop-i-test.true c.loop-i.invariant (not_from _ c.is_other.ensures.1 c.if-is_other.false)

pub returns-then-is_other : goal.returns-then-is_other
returns-then-is_other c = (
  (λ h. any_at (IsOther c.args.q.now c.args.p.now.signs.items c.args.attr) c.args.columns.now c.loop-i.i _ c.loop-i-test.true (c.is_other.ensures.0 c.if-is_other.true)),
  (λ a. refl),
)

pub returns : goal.returns
returns c = (
  (λ h. cc),
  (λ w. absurd (not_any (IsOther c.args.q.now c.args.p.now.signs.items c.args.attr) c.args.columns.now c.loop-i.i c.loop-i-test.false c.loop-i.invariant w)),
)
