use Rattle.sem_forms.proofs.WholeServes.{whole_parts_serve}
use Rattle.sem_forms.proofs.laws.whole_parts_serve.Goals as goal

pub returns : goal.returns
returns c = whole_parts_serve
