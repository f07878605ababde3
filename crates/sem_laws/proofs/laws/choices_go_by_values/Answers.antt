use Rattle.sem_laws.proofs.ByValues.{choices-go-by-values}
use Rattle.sem_laws.proofs.laws.choices_go_by_values.Goals as goal

pub returns : goal.returns
returns c = choices-go-by-values
