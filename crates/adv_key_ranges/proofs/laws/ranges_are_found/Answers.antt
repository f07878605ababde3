use Rattle.adv_key_ranges.proofs.Found.{ranges-are-found}
use Rattle.adv_key_ranges.proofs.laws.ranges_are_found.Goals as goal

pub returns : goal.returns
returns c = ranges-are-found
