use Rattle.std.proofs.Common.{◌≡◌, true, false, ◌<◌, ◌≤◌, List, length, refl, subst, ℕ, arith}
use Rattle.adv_key_decision.specs.Judged.{by_stream}
use Rattle.adv_key_decision.proofs.KeyPlaces.{equal-more, equal-all, one-unequal}
use Rattle.adv_key_decision.proofs.judging.are_all_equal.Goals as goal

pub loop-place-init : goal.loop-place-init
loop-place-init c = λ b l. absurd (omega (arith, l))

pub is_equal_at-requires-clause-place : goal.is_equal_at-requires-clause-place
is_equal_at-requires-clause-place c = subst (λ (z : List ℕ). c.loop-place.place < length z) c.from-place-end.ensures.value c.loop-place-test.true

pub loop-place-preserved : goal.loop-place-preserved
loop-place-preserved c = equal-more c.args.q.now (by_stream c.args.choice.now) c.args.a c.loop-place.place c.loop-place.invariant (c.if-not-is_equal_at.ensures.0 refl)

pub returns-then-not-is_equal_at : goal.returns-then-not-is_equal_at
returns-then-not-is_equal_at c =
    one-unequal c.args.q.now (by_stream c.args.choice.now) c.args.a c.loop-place.place
    (subst (λ (z : List ℕ). c.loop-place.place < length z) c.from-place-end.ensures.value c.loop-place-test.true) (λ w. let z : false ≡ true = c.if-not-is_equal_at.ensures.1 w in cc)

pub returns : goal.returns
returns c = equal-all c.args.q.now (by_stream c.args.choice.now) c.args.a c.loop-place.place (subst (λ (z : List ℕ). length z ≤ c.loop-place.place) c.from-place-end.ensures.value c.loop-place-test.false) c.loop-place.invariant
