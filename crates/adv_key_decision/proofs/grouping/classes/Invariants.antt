use Rattle.std.proofs.Common.{take}
use Rattle.std.specs.List.{AllZip}
use Rattle.sem_query.specs.Query.{attrs_of}
use Rattle.adv_key_decision.specs.Equal.{NamesClass}
use Rattle.adv_key_decision.proofs.grouping.classes.Given as goal

abbrev pub invariant-loop-i : goal.invariant-loop-i
invariant-loop-i l = AllZip (NamesClass l.q) (take l.i (attrs_of l.q.atoms)) l.list.items
