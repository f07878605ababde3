use Rattle.sem_split_bounds.proofs.Refusing.{first-condition-tells}
use Rattle.sem_split_bounds.proofs.laws.first_condition_tells.Goals as goal

pub returns : goal.returns
returns c = first-condition-tells
