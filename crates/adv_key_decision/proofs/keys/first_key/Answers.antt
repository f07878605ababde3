use Rattle.std.proofs.Common.{◌<◌, ◌≤◌, List, length, refl, subst, ℕ, arith}
use Rattle.adv_key_decision.specs.Judged.{by_stream}
use Rattle.adv_key_decision.proofs.KeyPlaces.{is-key, none-more, none-all}
use Rattle.adv_key_decision.proofs.keys.first_key.Goals as goal

pub loop-place-init : goal.loop-place-init
loop-place-init c = λ a l. absurd (omega (arith, l))

pub key_at-requires : goal.key_at-requires
key_at-requires c = subst (λ (z : List ℕ). c.loop-place.place < length z) c.from-place-end.ensures.value c.loop-place-test.true

pub returns-in-Some : goal.returns-in-Some
returns-in-Some c =
    (is-key c.args.q.now (by_stream c.args.choice.now) c.loop-place.place _ c.in-Some.ensures
    (subst (λ (z : List ℕ). c.loop-place.place < length z) c.from-place-end.ensures.value c.loop-place-test.true) c.in-Some.key refl).1

pub loop-place-preserved : goal.loop-place-preserved
loop-place-preserved c = none-more c.args.q.now (by_stream c.args.choice.now) c.loop-place.place _ c.in-None.ensures refl c.loop-place.invariant

pub returns : goal.returns
returns c = none-all c.args.q.now (by_stream c.args.choice.now) c.loop-place.place (subst (λ (z : List ℕ). length z ≤ c.loop-place.place) c.from-place-end.ensures.value c.loop-place-test.false) c.loop-place.invariant
