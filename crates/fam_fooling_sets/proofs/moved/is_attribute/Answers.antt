use Rattle.std.proofs.Common.{arith, subst, List, length, ◌<◌}
use Rattle.std.specs.Prelude.{Contains}
use Rattle.std.proofs.lemmas.Bool.Decides.{nat_tests}
use Rattle.sem_query.specs.declared.atom.Attr.{Attr}
use Rattle.sem_query.proofs.Has.{Contains-from_has}
use Rattle.plan_constraints.specs.Nodes.{place_of}
use Rattle.plan_constraints.proofs.NodeFacts.{node_has}
use Rattle.plan_constraints.proofs.OfDomains.{node_within}
use Rattle.fam_fooling_sets.proofs.moved.is_attribute.Goals as goal

pub returns : goal.returns
returns c t =
    let attrs = c.attrs-attrs.result.now in
    let below : place_of attrs c.args.attr < length attrs = (let e = c.place_of.ensures.value in grind (arith, nat_tests, t, e)) in
    subst (λ (ks : List Attr). Contains ks c.args.attr) c.attrs-attrs.ensures.value (Contains-from_has attrs c.args.attr (node_has attrs c.args.attr (node_within attrs c.args.attr below)))
