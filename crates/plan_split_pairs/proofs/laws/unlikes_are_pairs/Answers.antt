use Rattle.plan_split_pairs.proofs.Naming.{unlikes_are_pairs}
use Rattle.plan_split_pairs.proofs.laws.unlikes_are_pairs.Goals as goal

pub returns : goal.returns
returns c = unlikes_are_pairs
