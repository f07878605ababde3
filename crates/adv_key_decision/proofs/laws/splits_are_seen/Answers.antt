use Rattle.adv_key_decision.proofs.Followed.{splits-are-seen}
use Rattle.adv_key_decision.proofs.laws.splits_are_seen.Goals as goal

pub returns : goal.returns
returns c = splits-are-seen
