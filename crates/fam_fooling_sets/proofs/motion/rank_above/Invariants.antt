use Rattle.std.proofs.Common.{◌≡◌, ◌≤◌, ◌&&◌, not, filter, length, take, int_lt}
use Rattle.fam_fooling_sets.proofs.motion.rank_above.Given as goal

abbrev pub invariant-loop-i : goal.invariant-loop-i
invariant-loop-i l = (l.rank ≡ length (filter (λ v. int_lt l.beyond.end v && not (int_lt l.beyond.value v)) (take l.i l.values))) × (l.rank ≤ l.i)
