use Rattle.sem_sharding.proofs.Turns.{one-stream-dealt}
use Rattle.sem_sharding.proofs.laws.one_stream_dealt.Goals as goal

pub returns : goal.returns
returns c = one-stream-dealt
