use Rattle.adv_key_ranges.proofs.Ranged.{ranges-answer}
use Rattle.adv_key_ranges.proofs.laws.ranges_answer.Goals as goal

pub returns : goal.returns
returns c = ranges-answer
