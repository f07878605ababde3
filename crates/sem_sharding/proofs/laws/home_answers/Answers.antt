use Rattle.sem_sharding.proofs.Together.{home-answers}
use Rattle.sem_sharding.proofs.laws.home_answers.Goals as goal

pub returns : goal.returns
returns c = home-answers
