use Rattle.std.proofs.Common.{subst, sym, arith, List, Contains}
use Rattle.sem_query.specs.declared.atom.Attr.{Attr}
use Rattle.sem_query.specs.Query.{attrs_of}
use Rattle.sem_query.proofs.Has.{Has-from_contains}
use Rattle.plan_constraints.proofs.NodeFacts.{place_below}
use Rattle.fam_motions.specs.Apart.{Rises, Falls}
use Rattle.fam_motions.proofs.Passing.{rises-differ, falls-differ}
use Rattle.fam_motions.proofs.searching.is_different.Goals as goal

pub returns-then-attrs-place_of : goal.returns-then-attrs-place_of
returns-then-attrs-place_of c t h =
    let k = subst (λ (attrs : List Attr). Contains attrs c.args.attr) (sym c.attrs-attrs.ensures.value) h in
    absurd (let l = place_below c.attrs-attrs.result.now c.args.attr (Has-from_contains c.attrs-attrs.result.now c.args.attr k) in let e = c.place_of.ensures.value in let p = c.if-attrs-place_of.true in omega (arith, l, e, p))

pub returns-then-rises : goal.returns-then-rises
returns-then-rises c t h =
    rises-differ (attrs_of c.args.q.now.atoms) c.args.all.now c.args.attr
    (subst (λ (attrs : List Attr). Rises attrs c.args.all.now c.args.attr c.args.attr) c.attrs-attrs.ensures.value (c.rises.ensures c.if-rises.true))

pub returns : goal.returns
returns c t h =
    falls-differ (attrs_of c.args.q.now.atoms) c.args.all.now c.args.attr
    (subst (λ (attrs : List Attr). Falls attrs c.args.all.now c.args.attr c.args.attr) c.attrs-attrs.ensures.value (c.falls.ensures t))
