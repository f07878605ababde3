use Rattle.law_advice.proofs.ToldChanges.{changes-read-back}
use Rattle.law_advice.proofs.laws.changes_read_back.Goals as goal

pub returns : goal.returns
returns c = changes-read-back
