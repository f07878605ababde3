use Rattle.sem_sharding.proofs.Cases.{keys-are-judged}
use Rattle.sem_sharding.proofs.laws.keys_are_judged.Goals as goal

pub returns : goal.returns
returns c = keys-are-judged
