use Rattle.std.proofs.Common.{◌≡◌, ◌∙◌, ◌<◌, true, refl, sym, subst, length, List, arith}
use Rattle.sem_query.specs.declared.atom.Attr.{Attr}
use Rattle.sem_query.specs.Query.{attr_eq, attrs_of}
use Rattle.sem_query.proofs.Once.{attr_same}
use Rattle.sem_query.proofs.OneGroup.{attr_eq-itself}
use Rattle.plan_links.proofs.Searching.{no_more_at, not_any_at}
use Rattle.plan_links.proofs.Gathered.{not_from}
use Rattle.plan_closure.proofs.Zips.{zip_length}
use Rattle.adv_key_decision.specs.Equal.{NamesClass}
use Rattle.adv_key_decision.proofs.OneClass.{class-at}
use Rattle.adv_key_decision.proofs.grouping.class_of.Goals as goal

pub loop-i-preserved : goal.loop-i-preserved
loop-i-preserved c = no_more_at (λ (a : Attr). a ≡ c.args.a) (attrs_of c.args.q.now.atoms) c.attrs-attrs.result.now c.loop-i.i _ c.attrs-attrs.ensures.value c.loop-i-test.true c.loop-i.invariant (not_from _ (λ e. c.eq.ensures ∙ subst (λ (z : Attr). attr_eq z c.args.a ≡ true) (sym e) (attr_eq-itself c.args.a)) c.if-eq.false)

pub bounds-classes-i : goal.bounds-classes-i
bounds-classes-i c =
    let l : c.loop-i.i < length (attrs_of c.args.q.now.atoms) = subst (λ (z : List Attr). c.loop-i.i < length z) c.attrs-attrs.ensures.value c.loop-i-test.true in
    omega (arith, l, zip_length (NamesClass c.args.q.now) (attrs_of c.args.q.now.atoms) c.args.classes.now c.requires)

pub returns-then-eq : goal.returns-then-eq
returns-then-eq c =
    let l : c.loop-i.i < length (attrs_of c.args.q.now.atoms) = subst (λ (z : List Attr). c.loop-i.i < length z) c.attrs-attrs.ensures.value c.loop-i-test.true in
    class-at c.args.q.now c.attrs-attrs.result.now c.attrs-attrs.ensures.value c.args.classes.now c.args.a c.loop-i.i _ _ c.requires l (attr_same _ c.args.a (sym c.eq.ensures ∙ c.if-eq.true))

pub returns : goal.returns
returns c = λ w. not_any_at (λ (a : Attr). a ≡ c.args.a) (attrs_of c.args.q.now.atoms) c.attrs-attrs.result.now c.loop-i.i c.attrs-attrs.ensures.value c.loop-i-test.false c.loop-i.invariant (w.0, c.args.a, w.1, w.2, refl)
