use Rattle.std.proofs.Common.{take}
use Rattle.std.specs.List.{AllZip}
use Rattle.adv_key_choices.specs.Choices.{keys_in}
use Rattle.adv_key_ranges.specs.Ranges.{AreRanges}
use Rattle.cmd_advise_split.proofs.told.all_ranges.Given as goal

abbrev pub invariant-loop-i : goal.invariant-loop-i
invariant-loop-i l = AllZip (λ k r. AreRanges k.shared k.query (keys_in l.choice) r) (take l.i l.queries) l.list.items
