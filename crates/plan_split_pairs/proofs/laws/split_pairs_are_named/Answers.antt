use Rattle.plan_split_pairs.proofs.Naming.{split_pairs_are_named}
use Rattle.plan_split_pairs.proofs.laws.split_pairs_are_named.Goals as goal

pub returns : goal.returns
returns c = split_pairs_are_named
