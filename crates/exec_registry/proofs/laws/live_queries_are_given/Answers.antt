use Rattle.exec_registry.proofs.SoundLive.{live-queries-are-given}
use Rattle.exec_registry.proofs.laws.live_queries_are_given.Goals as goal

pub returns : goal.returns
returns c = live-queries-are-given
