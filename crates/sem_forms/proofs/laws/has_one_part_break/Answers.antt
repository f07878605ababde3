use Rattle.sem_forms.proofs.PartBreaks.{one_part_break}
use Rattle.sem_forms.proofs.laws.has_one_part_break.Goals as goal

pub returns : goal.returns
returns c = one_part_break
