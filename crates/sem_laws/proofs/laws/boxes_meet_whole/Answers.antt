use Rattle.sem_laws.proofs.BoxReadings.{boxes-meet-whole}
use Rattle.sem_laws.proofs.laws.boxes_meet_whole.Goals as goal

pub returns : goal.returns
returns c = boxes-meet-whole
