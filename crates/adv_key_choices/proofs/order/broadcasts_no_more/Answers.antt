use Rattle.std.proofs.Common.{◌≡◌, ℕ, None, true, false, inl, inr, refl, sym, subst, arith}
use Rattle.adv_key_choices.specs.Choices.{keys_in}
use Rattle.adv_key_choices.proofs.Listed.{last-or-before}
use Rattle.adv_key_choices.proofs.order.broadcasts_no_more.Goals as goal

pub loop-i-init : goal.loop-i-init
loop-i-init c = λ s l. absurd (omega (arith, l))

pub loop-i-preserved : goal.loop-i-preserved
loop-i-preserved c = λ s l. elim (last-or-before s c.loop-i.i l) [
  | inl m ↦ c.loop-i.invariant s m
  | inr m ↦ subst (λ (z : ℕ). keys_in c.args.c.now z ≡ None → keys_in c.args.d.now z ≡ None) (sym m) (c.if-not-has_none.ensures.0 refl)
]

pub returns-then-not-has_none : goal.returns-then-not-has_none
returns-then-not-has_none c = ((λ h. cc), (λ w. let z : false ≡ true = c.if-not-has_none.ensures.1 (w c.loop-i.i c.loop-i-test.true) in cc))

pub returns : goal.returns
returns c = ((λ h s l e. c.loop-i.invariant s (omega (arith, l, c.loop-i-test.false)) e), (λ w. refl))
