use Rattle.std.proofs.Common.{◌≡◌, ◌∙◌, true, sym, subst}
use Rattle.std.proofs.lemmas.List.Elements.{Contains-get_or}
use Rattle.sem_query.specs.declared.atom.Domain.{Domain}
use Rattle.sem_query.specs.declared.atom.Attr.{Attr}
use Rattle.sem_query.specs.Query.{attr_eq}
use Rattle.sem_query.proofs.Once.{attr_same}
use Rattle.sem_query.proofs.OneGroup.{attr_eq-itself}
use Rattle.plan_links.proofs.Searching.{no_more, not_any}
use Rattle.plan_links.proofs.Gathered.{not_from}
use Rattle.plan_conditions.proofs.lookup.domain_of.Goals as goal

pub loop-i-preserved : goal.loop-i-preserved
loop-i-preserved c = no_more (λ (d : Domain). d.attr ≡ c.args.attr) c.args.domains.now c.loop-i.i _ c.loop-i-test.true c.loop-i.invariant (not_from _ (λ e. c.eq.ensures ∙ subst (λ (z : Attr). attr_eq z c.args.attr ≡ true) (sym e) (attr_eq-itself c.args.attr)) c.if-eq.false)

pub returns-then-eq : goal.returns-then-eq
returns-then-eq c = (Contains-get_or c.args.domains.now c.loop-i.i _ c.loop-i-test.true, attr_same _ c.args.attr (sym c.eq.ensures ∙ c.if-eq.true))

pub returns : goal.returns
returns c = λ d h e. not_any (λ (d : Domain). d.attr ≡ c.args.attr) c.args.domains.now c.loop-i.i c.loop-i-test.false c.loop-i.invariant (h.0, d, h.1, h.2, e)
