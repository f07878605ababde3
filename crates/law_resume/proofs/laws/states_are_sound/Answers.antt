use Rattle.law_resume.proofs.SoundStates.{states_are_sound}
use Rattle.law_resume.proofs.laws.states_are_sound.Goals as goal

pub returns : goal.returns
returns c = states_are_sound
