use Rattle.std.proofs.Common.{length}
use Rattle.adv_mends.proofs.writing.+named.Given as goal

abbrev pub decreases-named : goal.decreases-named
decreases-named l = length l.atoms.now
