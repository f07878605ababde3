use Rattle.std.proofs.Common.{◌<◌, ℕ, slice_index_or}
use Rattle.sem_query.specs.declared.plan.Link.{Link}
use Rattle.fam_fooling_sets.specs.Passing.{ArePartedLinks}
use Rattle.fam_fooling_sets.proofs.searching.find_behind.Given as goal

abbrev pub invariant-loop-j : goal.invariant-loop-j
invariant-loop-j l = (k : ℕ) (d : Link) → k < l.j → ¬ ArePartedLinks l.q l.p.signs.items l.attr.stream l.first (slice_index_or l.links k d)
