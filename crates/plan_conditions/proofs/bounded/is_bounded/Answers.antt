use Rattle.std.proofs.Common.{subst, List, Contains}
use Rattle.sem_query.specs.declared.atom.Attr.{Attr}
use Rattle.plan_conditions.proofs.Told.{range_room, bounded_told}
use Rattle.plan_conditions.proofs.bounded.is_bounded.Goals as goal

pub has_range-requires : goal.has_range-requires
has_range-requires c = range_room c.args.q.now c.args.p.now.signs.items c.args.refs.now c.attrs.result.now c.in-Some.i c.requires.refs c.attrs.ensures.value c.in-Some.ensures.0

pub returns-in-Some : goal.returns-in-Some
returns-in-Some c = bounded_told c.args.q.now c.args.p.now.signs.items c.args.refs.now c.attrs.result.now c.in-Some.i c.args.attr _ c.requires.refs c.attrs.ensures.value c.in-Some.ensures.0 c.in-Some.ensures.1 c.has_range.ensures.0 c.has_range.ensures.1

pub has_domain-requires-clause-unnamed : goal.has_domain-requires-clause-unnamed
has_domain-requires-clause-unnamed c = subst (λ (z : List Attr). ¬ Contains z c.args.attr) c.attrs.ensures.value c.in-None.ensures
