use Rattle.sem_whole.proofs.Unbroken.{finite_forms_break_nothing}
use Rattle.sem_whole.proofs.laws.finite_forms_break_nothing.Goals as goal

pub returns : goal.returns
returns c = finite_forms_break_nothing
