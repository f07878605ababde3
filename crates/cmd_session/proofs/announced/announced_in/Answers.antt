use Rattle.std.proofs.Common.{◌<◌, length, arith}
use Rattle.exec_registry.specs.Live.{plan_cells}
use Rattle.cmd_session.specs.Announced.{answers_of}
use Rattle.cmd_session.proofs.Announcing.{one_more_plan}
use Rattle.cmd_session.proofs.announced.announced_in.Goals as goal

pub loop-place-preserved : goal.loop-place-preserved
loop-place-preserved c =
    let live = c.args.registry.now.live in
    let place = c.loop-place.place in
    let before = c.loop-place.invariant in
    let one = c.announced_by_plan-one.ensures in
    let there : place < length live = omega (arith, c.loop-place-test.true, c.len-place-end.ensures.value) in
    record {
      cells = omega (arith, before.cells, one.cells, one_more_plan plan_cells live place c.plan.result.now there c.plan.ensures.value);
      answers = omega (arith, before.answers, one.answers, one_more_plan answers_of live place c.plan.result.now there c.plan.ensures.value);
      few_cells = omega (arith, before.few_cells, one.few_cells);
      few_answers = omega (arith, before.few_answers, one.few_answers);
    }
