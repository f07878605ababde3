use Rattle.sem_laws.proofs.HotRooms.{hot-rooms}
use Rattle.sem_laws.proofs.laws.hot_rooms.Goals as goal

pub returns : goal.returns
returns c = hot-rooms
