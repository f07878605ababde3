use Rattle.law_resume.proofs.StreamLines.{streams_are_restored}
use Rattle.law_resume.proofs.laws.streams_are_restored.Goals as goal

pub returns : goal.returns
returns c = streams_are_restored
