use Rattle.std.proofs.Common.{All, take}
use Rattle.adv_key_decision.proofs.AllParts.{AreEqualIn}
use Rattle.adv_key_decision.proofs.equal.are_equal_in_all.Given as goal

abbrev pub invariant-loop-i : goal.invariant-loop-i
invariant-loop-i l = All (AreEqualIn l.q l.a l.b) (take l.i l.parts)
