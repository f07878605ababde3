use Rattle.std.proofs.Common.{All, take}
use Rattle.sem_query.specs.declared.atom.Attr.{Attr}
use Rattle.sem_query.specs.Query.{attrs_of}
use Rattle.sem_query.specs.declared.atom.Element.TheVariants as element
use Rattle.cert_checker.specs.OnLeaf.{LiesBetween}
use Rattle.cert_checker.proofs.links.some_attr_between.Given as goal

abbrev pub invariant-loop-i : goal.invariant-loop-i
invariant-loop-i l = All (λ (a : Attr). ¬ LiesBetween l.leaf.query.now l.leaf.signs.now l.x l.y (element.Attr a)) (take l.i (attrs_of l.leaf.query.now.atoms))
