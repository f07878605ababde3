use Rattle.std.proofs.Common.{◌∙◌, List, ap, arith}
use Rattle.sem_query.specs.declared.atom.Attr.{Attr}
use Rattle.sem_query.specs.Query.{attrs_of}
use Rattle.sem_query.proofs.Has.{Has-from_contains}
use Rattle.plan_constraints.specs.Nodes.{place_of}
use Rattle.plan_constraints.proofs.NodeFacts.{place_below}
use Rattle.fam_fooling_sets.proofs.searching.node_of_attr.Goals as goal

pub returns-clause-within : goal.returns-clause-within
returns-clause-within c =
    let l = place_below (attrs_of c.args.q.now.atoms) c.args.attr (Has-from_contains _ c.args.attr c.requires) in
    let e = c.place_of.ensures.value ∙ ap (λ (ks : List Attr). place_of ks c.args.attr) c.attrs.ensures.value in omega (arith, l, e)
