use Rattle.exec_query.proofs.Running.{runs-agree}
use Rattle.exec_query.proofs.laws.runs_agree.Goals as goal

pub returns : goal.returns
returns c = runs-agree
