use Rattle.adv_key_ranges.proofs.Searched.{AcceptedUpTo}
use Rattle.adv_key_ranges.proofs.searching.are_all_accepted.Given as goal

-- it is accepted in the ranges so far
abbrev pub invariant-loop-number : goal.invariant-loop-number
invariant-loop-number l = AcceptedUpTo l.shared l.query l.columns l.ends l.ranges l.number
