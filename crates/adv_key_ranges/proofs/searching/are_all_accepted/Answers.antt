use Rattle.std.proofs.Common.{subst}
use Rattle.adv_mends.specs.declared.mend.Ends.{Ends}
use Rattle.adv_key_ranges.specs.Accepted.{IsAccepted}
use Rattle.adv_key_ranges.specs.Narrowed.{narrowed}
use Rattle.adv_key_ranges.proofs.Searched.{accepted-more}
use Rattle.adv_key_ranges.proofs.searching.are_all_accepted.Goals as goal

pub loop-number-preserved : goal.loop-number-preserved
loop-number-preserved c =
    accepted-more c.args.shared c.args.query.now c.args.columns.now c.args.ends c.args.ranges c.loop-number.number c.loop-number.invariant
    (subst (λ (r : Ends). IsAccepted c.args.shared (narrowed c.args.columns.now r c.args.query.now)) c.range_at-range.ensures.range (c.in_ok-is_accepted_in.ensures.0 c.if-not-branch.false))
