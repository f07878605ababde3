use Rattle.adv_key_ranges.proofs.Searched.{none-more}
use Rattle.adv_key_ranges.proofs.searching.least_ranges.Goals as goal

pub loop-before-preserved : goal.loop-before-preserved
loop-before-preserved c =
    none-more c.args.shared c.args.query.now c.args.columns.now c.args.ends c.loop-before.before c.loop-before.invariant (λ a. let t = c.in_ok-are_all_accepted.ensures.1 a in cc)
