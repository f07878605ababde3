use Rattle.std.proofs.Common.{◌≡◌, All, take}
use Rattle.sem_query.specs.declared.atom.Attr.{Attr}
use Rattle.plan_conditions.proofs.lookup.is_among.Given as goal

abbrev pub invariant-loop-i : goal.invariant-loop-i
invariant-loop-i l = All (λ (m : Attr). ¬ (m ≡ l.attr)) (take l.i l.columns)
