use Rattle.std.proofs.Common.{◌≤◌, length}
use Rattle.adv_key_choices.specs.Extending.{AreExactUpTo}
use Rattle.adv_key_choices.proofs.extending.exact_choices.Given as goal

abbrev pub invariant-loop-stream : goal.invariant-loop-stream
invariant-loop-stream l = (l.stream ≤ length l.widths) × AreExactUpTo l.queries l.widths l.stream l.list.items
