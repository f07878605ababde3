use Rattle.std.proofs.Common.{take}
use Rattle.plan_forms.specs.Boxing.{AreSet}
use Rattle.plan_forms.proofs.boxing.stream_plans.Given as goal

abbrev pub invariant-streams : goal.invariant-streams
invariant-streams l = AreSet l.q l.first (take l.i l.streams) l.next l.list.items
