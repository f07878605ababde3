use Rattle.sem_laws.proofs.TableRoom.{table-has-room}
use Rattle.sem_laws.proofs.laws.table_has_room.Goals as goal

pub returns : goal.returns
returns c = table-has-room
