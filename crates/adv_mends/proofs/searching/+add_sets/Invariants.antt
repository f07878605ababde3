use Rattle.std.proofs.Common.{length}
use Rattle.adv_mends.proofs.searching.+add_sets.Given as goal

abbrev pub decreases-add_sets : goal.decreases-add_sets
decreases-add_sets l = length l.columns.now
