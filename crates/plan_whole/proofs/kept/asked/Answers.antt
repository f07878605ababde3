use Rattle.sem_whole.specs.System.{system}
use Rattle.sem_whole.proofs.Cases.{range_one}
use Rattle.plan_whole.proofs.Asking.{asked_first, asked_more, asked_all}
use Rattle.plan_whole.proofs.kept.asked.Goals as goal

pub loop-link-init : goal.loop-link-init
loop-link-init c = asked_first (system c.args.closed.now) c.args.a (range_one (system c.args.closed.now))

pub loop-link-preserved : goal.loop-link-preserved
loop-link-preserved c =
    asked_more (system c.args.closed.now) c.args.a (range_one (system c.args.closed.now)) c.args.links.now c.loop-link.link-index _ c.loop-link.asked c.widened-left.result c.widened-asked.result c.left_window.result c.right_window.result
    c.loop-link-test.true c.loop-link.invariant c.left_window.ensures c.widened-left.ensures c.right_window.ensures c.widened-asked.ensures

pub returns : goal.returns
returns c = asked_all (system c.args.closed.now) c.args.a (range_one (system c.args.closed.now)) c.args.links.now c.loop-link.link-index c.loop-link.asked c.loop-link-test.false c.loop-link.invariant
