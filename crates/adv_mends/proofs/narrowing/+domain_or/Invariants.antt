use Rattle.std.proofs.Common.{length}
use Rattle.adv_mends.proofs.narrowing.+domain_or.Given as goal

abbrev pub decreases-domain_or : goal.decreases-domain_or
decreases-domain_or l = length l.domains.now
