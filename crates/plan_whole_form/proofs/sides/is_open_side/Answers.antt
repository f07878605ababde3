use Rattle.plan_whole_form.proofs.Opening.{read_side, no_side, open_side_told}
use Rattle.plan_whole_form.proofs.sides.is_open_side.Goals as goal

pub returns-then-not-is_side : goal.returns-then-not-is_side
returns-then-not-is_side c = no_side c.args.closed.now c.args.links.now c.args.a c.is_side.result c.is_side.ensures c.if-not-is_side.true

pub kept_range-ends-requires : goal.kept_range-ends-requires
kept_range-ends-requires c = read_side c.args.closed.now c.args.links.now c.args.a (c.is_side.ensures.0 c.if-not-is_side.false)

pub returns : goal.returns
returns c = open_side_told c.args.closed.now c.args.links.now c.args.a c.kept_range-ends.result c.is_side.result c.is_finite-finite.result c.is_side.ensures c.if-not-is_side.false c.kept_range-ends.ensures c.is_finite-finite.ensures
