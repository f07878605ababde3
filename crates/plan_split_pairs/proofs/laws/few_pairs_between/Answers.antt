use Rattle.plan_split_pairs.proofs.Naming.{few_pairs_between}
use Rattle.plan_split_pairs.proofs.laws.few_pairs_between.Goals as goal

pub returns : goal.returns
returns c = few_pairs_between
