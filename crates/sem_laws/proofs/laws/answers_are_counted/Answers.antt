use Rattle.sem_laws.proofs.TableRoom.{length-all}
use Rattle.sem_laws.proofs.laws.answers_are_counted.Goals as goal

pub returns : goal.returns
returns c = length-all
