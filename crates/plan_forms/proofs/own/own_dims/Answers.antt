use Rattle.std.proofs.Common.{arith}
use Rattle.plan_forms.proofs.Owned.{dims_next, dims_room, open_at}
use Rattle.plan_forms.proofs.own.own_dims.Goals as goal

pub push-requires : goal.push-requires
push-requires c = (omega arith, dims_room c.args.closed.now c.args.dims.now c.dims.list.items c.dims.i 8 c.dims-test.true c.requires c.dims.invariant)

pub returns-in-None : goal.returns-in-None
returns-in-None c = open_at c.args.closed.now c.args.dims.now c.dims.list.items c.dims.i _ c.dims-test.true c.dims.invariant c.in-None.ensures

pub dims-preserved : goal.dims-preserved
dims-preserved c = dims_next c.args.closed.now c.args.dims.now c.dims.list.items c.push.new.self.items c.dims.i _ c.in-Some.dim c.dims-test.true c.dims.invariant c.in-Some.ensures c.push.ensures.items
