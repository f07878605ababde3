use Rattle.std.proofs.Common.{◌-◌, length}
use Rattle.plan_whole.proofs.Placed.{AreFrom}
use Rattle.plan_whole.proofs.places.places_of.Given as goal

abbrev pub invariant-loop-i : goal.invariant-loop-i
invariant-loop-i l = AreFrom l.attrs (length l.attrs - l.i) l.places
