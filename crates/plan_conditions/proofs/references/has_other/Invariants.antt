use Rattle.std.proofs.Common.{All, take}
use Rattle.sem_query.specs.declared.atom.Attr.{Attr}
use Rattle.plan_conditions.specs.Deciding.{IsOther}
use Rattle.plan_conditions.proofs.references.has_other.Given as goal

abbrev pub invariant-loop-i : goal.invariant-loop-i
invariant-loop-i l = All (λ (m : Attr). ¬ IsOther l.q l.p.signs.items l.attr m) (take l.i l.columns)
