use Rattle.sem_split_bounds.proofs.Moves.{still-queries-have-few-states}
use Rattle.sem_split_bounds.proofs.laws.still_queries_have_few_states.Goals as goal

pub returns : goal.returns
returns c = still-queries-have-few-states
