use Rattle.adv_key_ranges.proofs.Searched.{NoneYet}
use Rattle.adv_key_ranges.proofs.searching.least_ranges.Given as goal

-- none of the numbers so far is one
abbrev pub invariant-loop-before : goal.invariant-loop-before
invariant-loop-before l = NoneYet l.shared l.query l.columns l.ends l.before
