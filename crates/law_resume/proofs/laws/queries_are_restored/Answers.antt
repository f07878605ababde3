use Rattle.law_resume.proofs.QueryLines.{queries_are_restored}
use Rattle.law_resume.proofs.laws.queries_are_restored.Goals as goal

pub returns : goal.returns
returns c = queries_are_restored
