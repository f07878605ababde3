use Rattle.sem_query.proofs.FilterAlone.{filters_alone}
use Rattle.sem_query.proofs.laws.filters_alone.Goals as goal

pub returns : goal.returns
returns c = filters_alone
