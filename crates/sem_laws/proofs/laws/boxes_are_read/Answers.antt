use Rattle.sem_laws.proofs.BoxReadings.{boxes-are-read}
use Rattle.sem_laws.proofs.laws.boxes_are_read.Goals as goal

pub returns : goal.returns
returns c = boxes-are-read
