use Rattle.std.proofs.Common.{arith}
use Rattle.plan_forms.proofs.HullLaws.{joined_room, joined_more, joined_whole}
use Rattle.plan_forms.proofs.hulls.joined.Goals as goal

pub push-requires : goal.push-requires
push-requires c = (omega arith, joined_room c.args.before.now c.args.dims.now c.columns.list.items c.columns.i 8 c.columns-test.true c.requires c.columns.invariant)

pub columns-preserved : goal.columns-preserved
columns-preserved c =
    joined_more c.args.before.now c.args.dims.now c.columns.list.items c.push.new.self.items c.columns.i _ c.wider_with.result c.columns-test.true c.columns.invariant c.wider_with.ensures c.push.ensures.items

pub returns : goal.returns
returns c = joined_whole c.args.before.now c.args.dims.now c.columns.list.items c.columns.i c.columns-test.false c.columns.invariant
