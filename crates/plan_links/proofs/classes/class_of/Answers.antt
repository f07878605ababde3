use Rattle.std.proofs.Common.{◌<◌, subst, length, ◌≤◌, List, refl}
use Rattle.sem_query.specs.declared.atom.Attr.{Attr}
use Rattle.sem_query.specs.Query.{attrs_of}
use Rattle.sem_query.specs.Plan.{AreOneClass}
use Rattle.plan_links.proofs.Searching.{no_more}
use Rattle.plan_links.proofs.Gathered.{not_from}
use Rattle.plan_links.proofs.Naming.{has_class, class_place}
use Rattle.plan_links.proofs.classes.class_of.Goals as goal

pub loop-i-preserved : goal.loop-i-preserved
loop-i-preserved c =
    let d : Attr = record { stream = 0; column = 0 } in
    let l : c.loop-i.i < length (attrs_of c.args.q.now.atoms) = subst (λ (z : List Attr). c.loop-i.i < length z) c.attrs-attrs.ensures.value c.loop-i-test.true in
    no_more (λ (a : Attr). AreOneClass c.args.q.now c.args.p.now.signs.items a c.args.a.attr) (attrs_of c.args.q.now.atoms) c.loop-i.i d l c.loop-i.invariant (rw (c.named_at.ensures.attr d) at (not_from _ c.are_one_class.ensures.1 c.if-are_one_class.false))

pub returns-then-are_one_class : goal.returns-then-are_one_class
returns-then-are_one_class c =
    let d : Attr = record { stream = 0; column = 0 } in
    let l : c.loop-i.i < length (attrs_of c.args.q.now.atoms) = subst (λ (z : List Attr). c.loop-i.i < length z) c.attrs-attrs.ensures.value c.loop-i-test.true in
    class_place c.args.q.now c.args.p.now.signs.items (attrs_of c.args.q.now.atoms) c.args.a.attr c.loop-i.i d refl l (rw (c.named_at.ensures.attr d) at (c.are_one_class.ensures.0 c.if-are_one_class.true)) c.loop-i.invariant

pub returns : goal.returns
returns c = absurd (has_class c.args.q.now c.args.p.now.signs.items c.args.a.attr c.loop-i.i c.requires.among.known (subst (λ (z : List Attr). length z ≤ c.loop-i.i) c.attrs-attrs.ensures.value c.loop-i-test.false) c.loop-i.invariant)
