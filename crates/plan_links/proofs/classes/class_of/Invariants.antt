use Rattle.std.proofs.Common.{All, take}
use Rattle.sem_query.specs.declared.atom.Attr.{Attr}
use Rattle.sem_query.specs.Query.{attrs_of}
use Rattle.sem_query.specs.Plan.{AreOneClass}
use Rattle.plan_links.proofs.classes.class_of.Given as goal

abbrev pub invariant-loop-i : goal.invariant-loop-i
invariant-loop-i l = All (λ (a : Attr). ¬ AreOneClass l.q l.p.signs.items a l.a.attr) (take l.i (attrs_of l.q.atoms))
