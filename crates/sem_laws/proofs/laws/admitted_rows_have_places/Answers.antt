use Rattle.sem_laws.proofs.Inverse.{admitted-rows-have-places}
use Rattle.sem_laws.proofs.laws.admitted_rows_have_places.Goals as goal

pub returns : goal.returns
returns c = admitted-rows-have-places
