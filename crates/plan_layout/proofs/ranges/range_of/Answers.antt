use Rattle.std.proofs.Common.{◌<◌, List, length, subst, Contains}
use Rattle.sem_query.specs.declared.atom.Attr.{Attr}
use Rattle.plan_layout.proofs.Ranging.{range_found}
use Rattle.plan_layout.proofs.ranges.range_of.Goals as goal

pub range_at-requires-clause-place : goal.range_at-requires-clause-place
range_at-requires-clause-place c = subst (λ (z : List Attr). c.in-Some.i < length z) c.attrs.ensures.value c.in-Some.ensures.0

pub returns-in-Some : goal.returns-in-Some
returns-in-Some c = range_found c.args.q.now c.args.p.now.signs.items c.attrs.result.now c.in-Some.i c.args.attr c.range_at.result c.attrs.ensures.value c.in-Some.ensures.1 c.range_at.ensures

pub domain_range-requires-clause-unnamed : goal.domain_range-requires-clause-unnamed
domain_range-requires-clause-unnamed c = subst (λ (z : List Attr). ¬ Contains z c.args.attr) c.attrs.ensures.value c.in-None.ensures
