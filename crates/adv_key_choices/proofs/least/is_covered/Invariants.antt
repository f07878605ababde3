use Rattle.std.proofs.Common.{All, take}
use Rattle.adv_key_choices.specs.declared.choice.Choice.{Choice}
use Rattle.adv_key_choices.specs.Choices.{IsAtMost}
use Rattle.adv_key_choices.proofs.least.is_covered.Given as goal

abbrev pub invariant-loop-i : goal.invariant-loop-i
invariant-loop-i l = All (λ (c : Choice). ¬ IsAtMost l.queries c l.choice) (take l.i l.kept)
