use Rattle.std.proofs.Common.{◌≡◌, ◌∙◌, true, refl, sym, subst}
use Rattle.sem_query.specs.declared.atom.Attr.{Attr}
use Rattle.sem_query.specs.Query.{attr_eq}
use Rattle.sem_query.proofs.OneGroup.{attr_eq-itself}
use Rattle.plan_links.proofs.Searching.{no_more, not_any}
use Rattle.plan_links.proofs.Gathered.{not_from}
use Rattle.plan_conditions.proofs.lookup.place_of.Goals as goal

pub loop-i-preserved : goal.loop-i-preserved
loop-i-preserved c = no_more (λ (a : Attr). a ≡ c.args.attr) c.args.columns.now c.loop-i.i _ c.loop-i-test.true c.loop-i.invariant (not_from _ (λ e. c.eq.ensures ∙ subst (λ (z : Attr). attr_eq z c.args.attr ≡ true) (sym e) (attr_eq-itself c.args.attr)) c.if-eq.false)

pub returns : goal.returns
returns c = λ w. not_any (λ (a : Attr). a ≡ c.args.attr) c.args.columns.now c.loop-i.i c.loop-i-test.false c.loop-i.invariant (w.0, c.args.attr, w.1, w.2, refl)
