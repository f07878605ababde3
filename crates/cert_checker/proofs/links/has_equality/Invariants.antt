use Rattle.std.proofs.Common.{All, take}
use Rattle.sem_query.specs.declared.atom.Attr.{Attr}
use Rattle.sem_query.specs.Query.{attrs_of}
use Rattle.sem_query.specs.Links.{IsEquality}
use Rattle.cert_checker.proofs.links.has_equality.Given as goal

abbrev pub invariant-loop-i : goal.invariant-loop-i
invariant-loop-i l = All (λ (a : Attr). ¬ IsEquality l.leaf.query.now l.leaf.signs.now l.attr a) (take l.i (attrs_of l.leaf.query.now.atoms))
