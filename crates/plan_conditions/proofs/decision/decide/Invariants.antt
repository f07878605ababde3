use Rattle.sem_query.specs.Parts.{sign_lists}
use Rattle.plan_conditions.specs.Deciding.{NoneBefore}
use Rattle.plan_links.specs.Known.{AreBegun}
use Rattle.plan_conditions.proofs.decision.decide.Given as goal

abbrev pub invariant-loop-i : goal.invariant-loop-i
invariant-loop-i l = record { none : NoneBefore l.q (sign_lists l.parts) l.i; begun : AreBegun l.q l.distances }
