use Rattle.std.proofs.Common.{All, take}
use Rattle.sem_query.specs.declared.atom.Attr.{Attr}
use Rattle.sem_query.specs.declared.atom.Element.TheVariants as element
use Rattle.sem_query.specs.Query.{attrs_of}
use Rattle.plan_links.specs.Redundant.{LiesBetween}
use Rattle.plan_links.proofs.redundant.some_attr_between.Given as goal

abbrev pub invariant-loop-i : goal.invariant-loop-i
invariant-loop-i l = All (λ (a : Attr). ¬ LiesBetween l.q l.p.signs.items l.x.attr l.y.attr (element.Attr a)) (take l.i (attrs_of l.q.atoms))
