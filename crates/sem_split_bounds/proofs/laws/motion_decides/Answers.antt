use Rattle.sem_split_bounds.proofs.MotionNeeds.{motion-decides}
use Rattle.sem_split_bounds.proofs.laws.motion_decides.Goals as goal

pub returns : goal.returns
returns c = motion-decides
