use Rattle.std.proofs.Common.{length}
use Rattle.adv_diagnosis.proofs.names.+repeated_name.Given as goal

abbrev pub decreases-repeated_name : goal.decreases-repeated_name
decreases-repeated_name l = length l.names.now
