use Rattle.std.proofs.Common.{length}
use Rattle.adv_mends.proofs.searching.+is_sublist.Given as goal

abbrev pub decreases-is_sublist : goal.decreases-is_sublist
decreases-is_sublist l = length l.others.now
