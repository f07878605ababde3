use Rattle.std.proofs.Common.{rules, subst, arith}
use Rattle.std.proofs.lemmas.List.{take_all}
use Rattle.fam_fooling_sets.specs.Moving.{Spans}
use Rattle.fam_fooling_sets.proofs.Moving.{spans-more, spans-first}
use Rattle.fam_fooling_sets.proofs.motion.span.Goals as goal

pub loop-i-init : goal.loop-i-init
loop-i-init c = spans-first c.args.consts.now _ c.requires (search rules) (search rules)

pub loop-i-preserved : goal.loop-i-preserved
loop-i-preserved c = spans-more c.args.consts.now c.loop-i.i c.loop-i.ends c.widened-ends.result _ c.loop-i-test.true c.loop-i.invariant c.widened-ends.ensures (search rules)

pub returns : goal.returns
returns c = subst (λ ks. Spans c.args.consts.now ks c.loop-i.ends) (take_all c.loop-i.i c.args.consts.now (let l = c.loop-i-test.false in omega (arith, l))) c.loop-i.invariant
