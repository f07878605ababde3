use Rattle.std.proofs.Common.{refl}
use Rattle.plan_links.proofs.Gathered.{not_from}
use Rattle.plan_conditions.proofs.Two.{max_and_min, max_told, maxes_named}
use Rattle.plan_conditions.proofs.references.has_two_with_max.Goals as goal

pub has_other-requires-clause-columns : goal.has_other-requires-clause-columns
has_other-requires-clause-columns c = maxes_named c.args.q.now c.args.p.now.signs.items c.args.refs.now c.requires.refs c.as_slice-else-has_stream.result.now c.as_slice-else-has_stream.ensures.value

pub has_other-requires-clause-among : goal.has_other-requires-clause-among
has_other-requires-clause-among c = c.requires.reference.inequality.across.right

pub returns-then-has_stream : goal.returns-then-has_stream
returns-then-has_stream c = ((λ h. max_and_min c.args.q.now c.args.p.now.signs.items c.args.refs.now c.requires.refs c.args.attr c.as_slice.result.now c.args.refs.now.max_ref.items c.as_slice.ensures.value refl c.requires.reference (c.has_stream.ensures.0 c.if-has_stream.true)), (λ w. c.if-has_stream.true))

pub returns-else-has_stream : goal.returns-else-has_stream
returns-else-has_stream c = max_told c.args.q.now c.args.p.now.signs.items c.args.refs.now c.requires.refs c.args.attr c.as_slice.result.now c.as_slice-else-has_stream.result.now c.as_slice.ensures.value c.as_slice-else-has_stream.ensures.value _ c.requires.reference (not_from _ c.has_stream.ensures.1 c.if-has_stream.false) c.has_other.ensures.0 c.has_other.ensures.1
