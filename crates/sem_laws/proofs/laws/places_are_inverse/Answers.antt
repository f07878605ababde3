use Rattle.sem_laws.proofs.Inverse.{places-are-inverse}
use Rattle.sem_laws.proofs.laws.places_are_inverse.Goals as goal

pub returns : goal.returns
returns c = places-are-inverse
