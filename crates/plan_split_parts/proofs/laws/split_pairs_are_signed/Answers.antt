use Rattle.plan_split_parts.proofs.SignedPairs.{split_pairs_are_signed}
use Rattle.plan_split_parts.proofs.laws.split_pairs_are_signed.Goals as goal

pub returns : goal.returns
returns c = split_pairs_are_signed
