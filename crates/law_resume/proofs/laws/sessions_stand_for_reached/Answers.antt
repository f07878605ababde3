use Rattle.law_resume.proofs.Reached.{sessions_stand_for_reached}
use Rattle.law_resume.proofs.laws.sessions_stand_for_reached.Goals as goal

pub returns : goal.returns
returns c = sessions_stand_for_reached
