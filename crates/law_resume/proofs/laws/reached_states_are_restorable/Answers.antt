use Rattle.law_resume.proofs.Reached.{reached_states_are_restorable}
use Rattle.law_resume.proofs.laws.reached_states_are_restorable.Goals as goal

pub returns : goal.returns
returns c = reached_states_are_restorable
