use Rattle.sem_forms.proofs.One.{whole_parts_are_finite}
use Rattle.sem_forms.proofs.laws.whole_parts_are_finite.Goals as goal

pub returns : goal.returns
returns c = whole_parts_are_finite
