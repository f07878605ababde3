use Rattle.std.proofs.Common.{◌≡◌, All, take}
use Rattle.sem_query.specs.declared.atom.Attr.{Attr}
use Rattle.sem_query.specs.Query.{attrs_of}
use Rattle.adv_key_decision.proofs.grouping.class_of.Given as goal

abbrev pub invariant-loop-i : goal.invariant-loop-i
invariant-loop-i l = All (λ (m : Attr). ¬ (m ≡ l.a)) (take l.i (attrs_of l.q.atoms))
