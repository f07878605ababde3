use Rattle.std.proofs.Common.{◌≡◌, true, false}
use Rattle.fam_fooling_sets.specs.Passing.{IsRight}
use Rattle.fam_fooling_sets.proofs.Found.{each-more}
use Rattle.fam_fooling_sets.proofs.passing.has_right.Goals as goal

pub loop-i-preserved : goal.loop-i-preserved
loop-i-preserved c =
    each-more (λ l. ¬ IsRight c.args.q.now c.args.motion.now c.args.place l) c.args.links.now c.loop-i.i _ c.loop-i-test.true c.loop-i.invariant
    (λ p. (let t : c.is_right.result ≡ true = c.is_right.ensures.1 p in let f : c.is_right.result ≡ false = c.if-is_right.false in absurd cc))
