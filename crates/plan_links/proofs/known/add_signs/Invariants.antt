use Rattle.std.proofs.Common.{length, take}
use Rattle.sem_query.specs.Query.{attrs_of}
use Rattle.plan_constraints.specs.PartConstraints.{of_prefix}
use Rattle.plan_closure.specs.Shortest.{AreDistancesOf}
use Rattle.plan_links.proofs.known.add_signs.Given as goal

abbrev pub invariant-signs : goal.invariant-signs
invariant-signs l = AreDistancesOf l.distances (length (attrs_of l.q.atoms)) (of_prefix l.q (take l.i l.p.signs.items))
