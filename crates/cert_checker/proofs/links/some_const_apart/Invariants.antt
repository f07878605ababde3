use Rattle.std.proofs.Common.{ℤ, All, take}
use Rattle.sem_query.specs.declared.atom.Element.TheVariants as element
use Rattle.sem_query.specs.Query.{consts_of}
use Rattle.cert_checker.specs.OnLeaf.{KeepsApart}
use Rattle.cert_checker.proofs.links.some_const_apart.Given as goal

abbrev pub invariant-loop-i : goal.invariant-loop-i
invariant-loop-i l = All (λ (k : ℤ). ¬ KeepsApart l.leaf.query.now l.leaf.signs.now l.x l.y (element.Const k)) (take l.i (consts_of l.leaf.query.now.atoms))
