use Rattle.std.proofs.Common.{◌≤◌}
use Rattle.plan_forms.specs.Equated.{AreEquals}
use Rattle.plan_forms.proofs.equating.add_equals.Given as goal

abbrev pub invariant-later : goal.invariant-later
invariant-later l = (l.from ≤ l.place) × AreEquals l.closed l.streams l.fn.list.items l.a l.from l.place l.list.items
