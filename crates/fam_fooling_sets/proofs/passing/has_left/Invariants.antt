use Rattle.std.proofs.Common.{◌<◌, ℕ, slice_index_or}
use Rattle.sem_query.specs.declared.plan.Link.{Link}
use Rattle.fam_fooling_sets.specs.Passing.{IsLeft}
use Rattle.fam_fooling_sets.proofs.passing.has_left.Given as goal

abbrev pub invariant-loop-i : goal.invariant-loop-i
invariant-loop-i l = (k : ℕ) (d : Link) → k < l.i → ¬ IsLeft l.q l.motion l.place (slice_index_or l.links k d)
