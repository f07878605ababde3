use Rattle.std.proofs.Common.{refl}
use Rattle.sem_query.specs.Meaning.{new_answers}
use Rattle.sem_laws.proofs.laws.both_forms_answer_alike.Goals as goal

pub returns : goal.returns
unfolding new_answers
returns c = λ q history r. (refl, refl)
