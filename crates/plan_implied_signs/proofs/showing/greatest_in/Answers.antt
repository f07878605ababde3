use Rattle.std.proofs.Common.{rules, ℤ, ◌≤ℤ◌, sym, subst, arith, w64}
use Rattle.std.proofs.lemmas.Int.{to_z-of_z}
use Rattle.plan_implied_signs.proofs.ShowingLaws.{no_condition, high_kept}
use Rattle.plan_implied_signs.proofs.showing.greatest_in.Goals as goal

pub returns-in-Some : goal.returns-in-Some
returns-in-Some c = λ v kept.
    subst (λ (m : ℤ). v c.args.a.column ≤ℤ m) (sym (to_z-of_z w64 c.in-Some.m (search rules)))
    (high_kept c.args.part.now c.args.place c.as_slice-local.result.now c.conditions.condition-index no_condition c.as_slice-local.ensures (omega (arith, c.conditions-test.true))
    c.args.a c.in-Some.m c.in-Some.ensures v kept)
