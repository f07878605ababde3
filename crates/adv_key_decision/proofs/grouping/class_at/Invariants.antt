use Rattle.std.proofs.Common.{◌≤◌, refl}
use Rattle.sem_query.specs.Query.{attrs_of}
use Rattle.adv_key_decision.proofs.OneClass.{NoneEqual}
use Rattle.adv_key_decision.proofs.grouping.class_at.Given as goal

abbrev pub invariant-loop-j : goal.invariant-loop-j
invariant-loop-j l = (l.j ≤ l.i) × NoneEqual l.q (attrs_of l.q.atoms) refl l.i l.j
