use Rattle.law_resume.proofs.Resumed.{resumed_continues_alike}
use Rattle.law_resume.proofs.laws.resumed_continues_alike.Goals as goal

pub returns : goal.returns
returns c = resumed_continues_alike
