use Rattle.adv_key_choices.proofs.Passes.{passed-none, passed-more, passed-all}
use Rattle.adv_key_choices.proofs.least.pass.Goals as goal

pub loop-i-init : goal.loop-i-init
loop-i-init c = rw c.new-kept.ensures.items (passed-none c.args.queries.now)

pub loop-i-preserved : goal.loop-i-preserved
loop-i-preserved c = passed-more c.args.queries.now c.args.choices.now _ _ c.loop-i.i _ c.loop-i-test.true c.loop-i.invariant c.in_ok-add_uncovered.ensures

pub returns : goal.returns
returns c = passed-all c.args.queries.now c.args.choices.now _ c.loop-i.i c.loop-i-test.false c.loop-i.invariant
