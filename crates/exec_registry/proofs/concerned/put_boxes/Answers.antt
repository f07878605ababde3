use Rattle.std.proofs.Common.{arith}
use Rattle.exec_registry.proofs.Sparing.{boxes_more}
use Rattle.exec_registry.proofs.concerned.put_boxes.Goals as goal

pub loop-place-preserved : goal.loop-place-preserved
loop-place-preserved c = record {
  size = (let a = c.push.ensures.len in let i = c.loop-place.invariant.size in omega (arith, a, i));
  each = boxes_more c.args.stream c.args.live.now c.loop-place.boxes.items c.push.new.self.items c.box_for.result c.loop-place.place c.executor_at.result.now
      c.push.ensures.items c.loop-place.invariant.size c.executor_at.ensures c.loop-place.invariant.each c.box_for.ensures;
}
