use Rattle.std.proofs.Common.{List, refl, sym, subst}
use Rattle.std.specs.List.{Any}
use Rattle.plan_links.proofs.Gathered.{not_from}
use Rattle.adv_key_choices.specs.declared.choice.Choice.{Choice}
use Rattle.adv_key_choices.specs.Choices.{IsAtMost}
use Rattle.adv_key_choices.specs.Sifting.{put, covered}
use Rattle.adv_key_choices.proofs.least.add_uncovered.Goals as goal

pub returns-then-is_covered : goal.returns-then-is_covered
returns-then-is_covered c =
    covered (subst (λ (z : List Choice). Any (λ k. IsAtMost c.args.queries.now k c.args.choice) z) c.as_slice.ensures.value (c.is_covered.ensures.0 c.if-is_covered.true)) refl

pub returns-in-Ok : goal.returns-in-Ok
returns-in-Ok c =
    put (λ w. not_from _ c.is_covered.ensures.1 c.if-is_covered.false
    (subst (λ (z : List Choice). Any (λ k. IsAtMost c.args.queries.now k c.args.choice) z) (sym c.as_slice.ensures.value) w)) c.in-Ok.ensures.items
