use Rattle.std.proofs.Common.{◌≡◌, ◌∙◌, pos, map, ap, subst}
use Rattle.sem_query.specs.declared.atom.Element.TheVariants as element
use Rattle.plan_constraints.specs.Nodes.{at_most_above}
use Rattle.plan_whole.specs.Closed.{constraint_of, named_bounds}
use Rattle.plan_whole.proofs.Within.{ends_there, no_ends, domain_within}
use Rattle.plan_whole.proofs.closed.of_domain.Goals as goal

pub returns-then-place_of-attrs-clause-value : goal.returns-then-place_of-attrs-clause-value
returns-then-place_of-attrs-clause-value c =
    subst (λ xs. c.push-then-place_of-attrs.new.self.items ≡ map (constraint_of xs) (named_bounds xs c.args.domain.now)) c.attrs-attrs.ensures.value
    (ends_there c.attrs-attrs.result.now c.args.domain.now c.place_of.result _ _ _ _ _ c.place_of.ensures.value c.if-place_of-attrs.true c.new-list.ensures
    (c.above.ensures ∙ ap (λ e. at_most_above c.attrs-attrs.result.now e (element.Attr c.args.domain.now.attr) (pos 0)) c.least_of.ensures) c.push.ensures.items
    (c.above-then-place_of-attrs.ensures ∙ ap (λ e. at_most_above c.attrs-attrs.result.now (element.Attr c.args.domain.now.attr) e (pos 0)) c.greatest_of.ensures) c.push-then-place_of-attrs.ensures.items)

pub returns-then-place_of-attrs-clause-within : goal.returns-then-place_of-attrs-clause-within
returns-then-place_of-attrs-clause-within c = domain_within c.args.q.now c.args.domain.now _ (returns-then-place_of-attrs-clause-value c) c.requires

pub returns-else-place_of-attrs-clause-value : goal.returns-else-place_of-attrs-clause-value
returns-else-place_of-attrs-clause-value c =
    subst (λ xs. c.new-list.result.items ≡ map (constraint_of xs) (named_bounds xs c.args.domain.now)) c.attrs-attrs.ensures.value
    (no_ends c.attrs-attrs.result.now c.args.domain.now c.place_of.result _ c.place_of.ensures.value c.if-place_of-attrs.false c.new-list.ensures)
