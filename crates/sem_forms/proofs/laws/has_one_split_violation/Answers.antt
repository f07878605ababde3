use Rattle.sem_forms.proofs.PartBreaks.{one_split_violation}
use Rattle.sem_forms.proofs.laws.has_one_split_violation.Goals as goal

pub returns : goal.returns
returns c = one_split_violation
