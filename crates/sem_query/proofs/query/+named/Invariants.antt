use Rattle.std.proofs.Common.{length}
use Rattle.sem_query.proofs.query.+named.Given as goal

abbrev pub decreases-named : goal.decreases-named
decreases-named l = length l.atoms.now
