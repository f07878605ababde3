use Rattle.exec_query.proofs.Running.{runs-answer-all}
use Rattle.exec_query.proofs.laws.runs_answer_all.Goals as goal

pub returns : goal.returns
returns c = runs-answer-all
