use Rattle.std.proofs.Common.{take}
use Rattle.adv_key_choices.proofs.Extended.{AreExtended}
use Rattle.adv_key_choices.proofs.extending.extend_all.Given as goal

abbrev pub invariant-loop-i : goal.invariant-loop-i
invariant-loop-i l = AreExtended l.queries l.widths l.stream (take l.i l.choices) l.list.items
