use Rattle.std.proofs.Common.{◌≤◌}
use Rattle.adv_key_choices.specs.Extending.{AddsEach, IsColumnOf}
use Rattle.adv_key_choices.proofs.extending.add_extensions.Given as goal

abbrev pub invariant-loop-column : goal.invariant-loop-column
invariant-loop-column l = (l.column ≤ l.width) × AddsEach l.queries l.choice l.stream (IsColumnOf l.column) l.fn.list.items l.list.items
