use Rattle.sem_forms.proofs.PartBreaks.{whole_parts_break_nothing}
use Rattle.sem_forms.proofs.laws.whole_parts_break_nothing.Goals as goal

pub returns : goal.returns
returns c = whole_parts_break_nothing
