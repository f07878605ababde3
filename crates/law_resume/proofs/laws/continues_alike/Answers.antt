use Rattle.law_resume.proofs.Continuing.{continues_alike}
use Rattle.law_resume.proofs.laws.continues_alike.Goals as goal

pub returns : goal.returns
returns c = continues_alike
