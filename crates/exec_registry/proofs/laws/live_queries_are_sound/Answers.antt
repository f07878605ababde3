use Rattle.exec_registry.proofs.SoundLive.{live-queries-are-sound}
use Rattle.exec_registry.proofs.laws.live_queries_are_sound.Goals as goal

pub returns : goal.returns
returns c = live-queries-are-sound
