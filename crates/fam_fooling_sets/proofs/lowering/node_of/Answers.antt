use Rattle.std.proofs.Common.{arith}
use Rattle.fam_fooling_sets.proofs.FromPart.{node-there, node-none}
use Rattle.fam_fooling_sets.proofs.lowering.node_of.Goals as goal

pub returns-then-place-attrs : goal.returns-then-place-attrs
returns-then-place-attrs c = node-there c.args.attrs.now c.args.attr c.place_of-place.result c.place_of-place.ensures.value c.if-place-attrs.true

pub returns-else-place-attrs : goal.returns-else-place-attrs
returns-else-place-attrs c = node-none c.args.attrs.now c.args.attr c.place_of-place.result c.place_of-place.ensures.value (let l = c.if-place-attrs.false in omega (arith, l))
