use Rattle.std.proofs.Common.{rules, arith}
use Rattle.fam_fooling_sets.proofs.Moving.{all-more, all-taken}
use Rattle.fam_fooling_sets.proofs.motion.least.Goals as goal

pub loop-i-preserved : goal.loop-i-preserved
loop-i-preserved c = (
  search rules,
  all-more c.args.values.now c.loop-i.i _ _ c.loop-i-test.true c.loop-i.invariant.1 (search rules) (search rules),
)

pub returns-clause-least : goal.returns-clause-least
returns-clause-least c = all-taken c.args.values.now c.loop-i.i _ (let l = c.loop-i-test.false in omega (arith, l)) c.loop-i.invariant.1
