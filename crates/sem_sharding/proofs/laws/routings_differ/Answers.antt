use Rattle.sem_sharding.proofs.Cases.{routings-differ}
use Rattle.sem_sharding.proofs.laws.routings_differ.Goals as goal

pub returns : goal.returns
returns c = routings-differ
