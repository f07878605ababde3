use Rattle.std.proofs.Common.{arith}
use Rattle.plan_implied_signs.proofs.ShowingLaws.{no_condition, equal_kept}
use Rattle.plan_implied_signs.proofs.showing.tied_to.Goals as goal

pub returns-in-Some : goal.returns-in-Some
returns-in-Some c =
    equal_kept c.args.part.now c.args.place c.as_slice-local.result.now c.conditions.condition-index no_condition c.as_slice-local.ensures (omega (arith, c.conditions-test.true))
    c.args.a c.in-Some.b c.in-Some.ensures
