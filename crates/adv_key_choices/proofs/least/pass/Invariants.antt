use Rattle.std.proofs.Common.{take}
use Rattle.adv_key_choices.specs.Sifting.{IsPassed}
use Rattle.adv_key_choices.proofs.least.pass.Given as goal

abbrev pub invariant-loop-i : goal.invariant-loop-i
invariant-loop-i l = IsPassed l.queries (take l.i l.choices) l.kept.items
