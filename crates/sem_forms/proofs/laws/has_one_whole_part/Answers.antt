use Rattle.sem_forms.proofs.One.{one_whole_part}
use Rattle.sem_forms.proofs.laws.has_one_whole_part.Goals as goal

pub returns : goal.returns
returns c = one_whole_part
