use Rattle.std.proofs.Common.{◌≡◌, ℕ, ◌<◌, None}
use Rattle.adv_key_choices.specs.Choices.{keys_in}
use Rattle.adv_key_choices.proofs.order.broadcasts_no_more.Given as goal

abbrev pub invariant-loop-i : goal.invariant-loop-i
invariant-loop-i l = (s : ℕ) → s < l.i → keys_in l.c s ≡ None → keys_in l.d s ≡ None
