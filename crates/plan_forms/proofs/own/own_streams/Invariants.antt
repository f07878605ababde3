use Rattle.std.proofs.Common.{take}
use Rattle.plan_forms.specs.Own.{AreOwnStreams}
use Rattle.plan_forms.proofs.own.own_streams.Given as goal

abbrev pub invariant-streams : goal.invariant-streams
invariant-streams l = AreOwnStreams l.closed (take l.i l.streams) l.list.items
