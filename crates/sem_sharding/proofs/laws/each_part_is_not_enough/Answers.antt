use Rattle.sem_sharding.proofs.Cases.{each-part-is-not-enough}
use Rattle.sem_sharding.proofs.laws.each_part_is_not_enough.Goals as goal

pub returns : goal.returns
returns c = each-part-is-not-enough
