use Rattle.law_lock.proofs.Classes.{lines_are_few_kinds as law}
use Rattle.law_lock.proofs.laws.lines_are_few_kinds.Goals as goal

pub returns : goal.returns
returns c = law
