use Rattle.std.proofs.Common.{arith}
use Rattle.plan_forms.proofs.Owned.{streams_next, streams_room, open_in}
use Rattle.plan_forms.proofs.own.own_streams.Goals as goal

pub push-requires : goal.push-requires
push-requires c = (omega arith, streams_room c.args.closed.now c.args.streams.now c.streams.list.items c.streams.i 4 c.streams-test.true c.requires c.streams.invariant)

pub returns-in-Err : goal.returns-in-Err
returns-in-Err c = open_in c.args.closed.now c.args.streams.now c.streams.list.items c.streams.i c.index-streams-i.result c.in-Err.open c.streams-test.true c.index-streams-i.is c.streams.invariant c.in-Err.ensures

pub streams-preserved : goal.streams-preserved
streams-preserved c =
    streams_next c.args.closed.now c.args.streams.now c.streams.list.items c.push.new.self.items c.streams.i c.index-streams-i.result c.in-Ok.stream c.streams-test.true c.index-streams-i.is c.streams.invariant
    c.in-Ok.ensures c.push.ensures.items
