use Rattle.std.proofs.Common.{◌<◌, ℕ, slice_index_or}
use Rattle.sem_query.specs.declared.plan.Link.{Link}
use Rattle.fam_fooling_sets.specs.Passing.{NoneIsParted}
use Rattle.fam_fooling_sets.proofs.searching.find_cut.Given as goal

abbrev pub invariant-loop-i : goal.invariant-loop-i
invariant-loop-i l = (k : ℕ) (d : Link) → k < l.i → NoneIsParted l.q l.p.signs.items l.links l.attr.stream (slice_index_or l.links k d)
