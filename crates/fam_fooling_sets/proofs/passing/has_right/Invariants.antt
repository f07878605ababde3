use Rattle.std.proofs.Common.{◌<◌, ℕ, slice_index_or}
use Rattle.sem_query.specs.declared.plan.Link.{Link}
use Rattle.fam_fooling_sets.specs.Passing.{IsRight}
use Rattle.fam_fooling_sets.proofs.passing.has_right.Given as goal

abbrev pub invariant-loop-i : goal.invariant-loop-i
invariant-loop-i l = (k : ℕ) (d : Link) → k < l.i → ¬ IsRight l.q l.motion l.place (slice_index_or l.links k d)
