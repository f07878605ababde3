use Rattle.std.proofs.Common.{length}
use Rattle.adv_key_ranges.proofs.keys.+common.Given as goal

abbrev pub decreases-common : goal.decreases-common
decreases-common l = length l.domains.now
