use Rattle.std.proofs.Common.{refl}
use Rattle.adv_key_decision.specs.Judged.{by_stream}
use Rattle.adv_key_decision.proofs.KeyPlaces.{equal-at, unequal-at, no-key}
use Rattle.adv_key_decision.proofs.judging.is_equal_at.Goals as goal

pub returns-in-Some : goal.returns-in-Some
returns-in-Some c = (
  (λ h. equal-at c.args.q.now (by_stream c.args.choice.now) c.args.place _ c.in-Some.ensures c.args.a c.in-Some.key refl (c.are_equal.ensures.0 h)),
  (λ w. c.are_equal.ensures.1 (unequal-at c.args.q.now (by_stream c.args.choice.now) c.args.place _ c.in-Some.ensures c.requires.place c.args.a c.in-Some.key refl w)),
)

pub returns-in-None : goal.returns-in-None
returns-in-None c = ((λ h b m k. no-key c.args.q.now (by_stream c.args.choice.now) c.args.place _ c.in-None.ensures refl b m k), (λ w. refl))
