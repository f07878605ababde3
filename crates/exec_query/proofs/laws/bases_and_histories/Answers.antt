use Rattle.exec_query.proofs.Bases.{bases-and-histories}
use Rattle.exec_query.proofs.laws.bases_and_histories.Goals as goal

pub returns : goal.returns
returns c = bases-and-histories
