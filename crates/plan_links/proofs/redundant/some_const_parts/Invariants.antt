use Rattle.std.proofs.Common.{ℤ, All, take}
use Rattle.sem_query.specs.declared.atom.Element.TheVariants as element
use Rattle.sem_query.specs.Query.{consts_of}
use Rattle.plan_links.specs.Redundant.{Parts}
use Rattle.plan_links.proofs.redundant.some_const_parts.Given as goal

abbrev pub invariant-loop-i : goal.invariant-loop-i
invariant-loop-i l = All (λ (k : ℤ). ¬ Parts l.q l.p.signs.items l.x.attr l.y.attr (element.Const k)) (take l.i (consts_of l.q.atoms))
