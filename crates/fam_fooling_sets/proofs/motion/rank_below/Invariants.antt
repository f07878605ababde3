use Rattle.std.proofs.Common.{◌≡◌, ◌≤◌, ◌&&◌, not, filter, length, take, int_lt}
use Rattle.fam_fooling_sets.proofs.motion.rank_below.Given as goal

abbrev pub invariant-loop-i : goal.invariant-loop-i
invariant-loop-i l = (l.rank ≡ length (filter (λ v. int_lt v l.beyond.end && not (int_lt v l.beyond.value)) (take l.i l.values))) × (l.rank ≤ l.i)
