use Rattle.sem_laws.proofs.SoftCases.{soft-comparisons}
use Rattle.sem_laws.proofs.laws.soft_comparisons.Goals as goal

pub returns : goal.returns
returns c = soft-comparisons
