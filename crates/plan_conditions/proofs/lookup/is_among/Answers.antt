use Rattle.std.proofs.Common.{◌≡◌, ◌∙◌, true, refl, sym, subst}
use Rattle.sem_query.specs.declared.atom.Attr.{Attr}
use Rattle.sem_query.specs.Query.{attr_eq}
use Rattle.sem_query.proofs.Once.{attr_same}
use Rattle.sem_query.proofs.OneGroup.{attr_eq-itself}
use Rattle.plan_links.proofs.Searching.{no_more, not_any, any_at}
use Rattle.plan_links.proofs.Gathered.{not_from}
use Rattle.plan_conditions.proofs.lookup.is_among.Goals as goal

pub loop-i-preserved : goal.loop-i-preserved
loop-i-preserved c = no_more (λ (a : Attr). a ≡ c.args.attr) c.args.columns.now c.loop-i.i _ c.loop-i-test.true c.loop-i.invariant (not_from _ (λ e. c.eq.ensures ∙ subst (λ (z : Attr). attr_eq z c.args.attr ≡ true) (sym e) (attr_eq-itself c.args.attr)) c.if-eq.false)

pub returns-then-eq : goal.returns-then-eq
returns-then-eq c = (
  (λ h. any_at (λ (a : Attr). a ≡ c.args.attr) c.args.columns.now c.loop-i.i _ c.loop-i-test.true (attr_same _ c.args.attr (sym c.eq.ensures ∙ c.if-eq.true))),
  (λ a. refl),
)

pub returns : goal.returns
returns c = (
  (λ h. cc),
  (λ w. absurd (not_any (λ (a : Attr). a ≡ c.args.attr) c.args.columns.now c.loop-i.i c.loop-i-test.false c.loop-i.invariant w)),
)
