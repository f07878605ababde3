use Rattle.std.proofs.Common.{arith}
use Rattle.sem_query.proofs.BoxLaws.{sound-full}
use Rattle.sem_query.proofs.boxes.cell_index.Goals as goal

pub place_of-requires-clause-sound : goal.place_of-requires-clause-sound
place_of-requires-clause-sound c = rw c.as_slice.ensures.value (sound-full _ c.requires.full (omega arith))
