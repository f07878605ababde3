use Rattle.std.proofs.Common.{arith}
use Rattle.plan_implied_signs.proofs.ShowingLaws.{no_condition, stated_kept}
use Rattle.plan_implied_signs.proofs.showing.left_by_conditions.Goals as goal

pub left_if-possible-requires-clause-known : goal.left_if-possible-requires-clause-known
left_if-possible-requires-clause-known c =
    stated_kept c.args.part.now c.args.place c.as_slice-local.result.now c.conditions.condition-index no_condition c.as_slice-local.ensures (omega (arith, c.conditions-test.true))
    c.args.pair c.stated_at-stated.result c.stated_at-stated.ensures
