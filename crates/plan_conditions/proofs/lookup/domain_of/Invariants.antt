use Rattle.std.proofs.Common.{◌≡◌, All, take}
use Rattle.sem_query.specs.declared.atom.Domain.{Domain}
use Rattle.plan_conditions.proofs.lookup.domain_of.Given as goal

abbrev pub invariant-loop-i : goal.invariant-loop-i
invariant-loop-i l = All (λ (d : Domain). ¬ (d.attr ≡ l.attr)) (take l.i l.domains)
