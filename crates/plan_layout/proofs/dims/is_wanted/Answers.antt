use Rattle.plan_layout.proofs.Wanting.{wanted_then, wanted_else}
use Rattle.plan_layout.proofs.dims.is_wanted.Goals as goal

pub returns-then-is_among : goal.returns-then-is_among
returns-then-is_among c = wanted_then c.args.q.now c.args.p.now.signs.items c.args.refs.now c.requires c.args.attr _ c.select.result.now c.select.ensures.value c.is_among.ensures c.if-is_among.true

pub returns-else-is_among : goal.returns-else-is_among
returns-else-is_among c = wanted_else c.args.q.now c.args.p.now.signs.items c.args.refs.now c.requires c.args.attr _ _ c.select.result.now c.select.ensures.value c.is_among.ensures c.if-is_among.false c.is_in_link.ensures
