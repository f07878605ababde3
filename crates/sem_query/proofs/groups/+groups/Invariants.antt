use Rattle.std.proofs.Common.{length}
use Rattle.sem_query.proofs.groups.+groups.Given as goal

abbrev pub decreases-groups : goal.decreases-groups
decreases-groups l = length l.atoms.now
