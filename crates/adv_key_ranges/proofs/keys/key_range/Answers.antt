use Rattle.std.proofs.Common.{List, filter, ap, ◌∙◌}
use Rattle.std.proofs.lemmas.List.Elements.{All-contains}
use Rattle.sem_query.specs.declared.atom.Domain.{Domain}
use Rattle.sem_query.specs.Query.{IsDomain}
use Rattle.adv_key_ranges.specs.Keys.{is_among, common, range_between, key_range}
use Rattle.adv_key_ranges.proofs.KeyRanges.{key-ends}
use Rattle.adv_key_ranges.proofs.keys.key_range.Goals as goal

pub returns-clause-range : goal.returns-clause-range
unfolding key_range
returns-clause-range c =
    c.some_value.ensures ∙ ap range_between c.common.ensures
    ∙ ap (λ (ds : List Domain). range_between (common (filter (λ d. is_among c.args.columns.now d.attr) ds))) c.domains.ensures.value

pub returns-clause-ends : goal.returns-clause-ends
returns-clause-ends c =
    key-ends c.args.query.now c.args.columns.now c.some_value.result (returns-clause-range c)
    (λ d h. All-contains (IsDomain c.args.query.now) c.args.query.now.domains d c.domains.ensures.limits.domains h)
