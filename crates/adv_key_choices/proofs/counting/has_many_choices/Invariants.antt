use Rattle.std.proofs.Common.{◌≡◌, ◌≤◌, take}
use Rattle.adv_key_choices.specs.Counting.{choice_count}
use Rattle.adv_key_choices.proofs.counting.has_many_choices.Given as goal

abbrev pub invariant-loop-i : goal.invariant-loop-i
invariant-loop-i l = (l.count ≡ choice_count (take l.i l.widths)) × (l.count ≤ 1048576)
