use Rattle.std.proofs.Common.{◌≡◌, ◌∙◌, true, inl, refl, sym, subst}
use Rattle.sem_query.specs.declared.atom.Attr.{Attr}
use Rattle.sem_query.specs.Query.{attr_eq}
use Rattle.sem_query.proofs.Once.{attr_same}
use Rattle.sem_query.proofs.OneGroup.{attr_eq-itself}
use Rattle.plan_links.proofs.Gathered.{not_from}
use Rattle.adv_key_decision.proofs.OneClass.{seen-equal}
use Rattle.adv_key_decision.proofs.grouping.are_equal.Goals as goal

pub returns-then-eq : goal.returns-then-eq
returns-then-eq c = ((λ h. inl (attr_same c.args.a c.args.b (sym c.eq.ensures ∙ c.if-eq.true))), (λ w. refl))

pub returns-else-eq : goal.returns-else-eq
returns-else-eq c =
    seen-equal c.args.q.now c.args.a c.args.b _
    (not_from _ (λ e. c.eq.ensures ∙ subst (λ (z : Attr). attr_eq c.args.a z ≡ true) e (attr_eq-itself c.args.a)) c.if-eq.false)
    c.are_one_class.ensures.0 c.are_one_class.ensures.1
