-- The worked query hot-rooms, computed.
use Rattle.std.proofs.Common.{refl}
use Rattle.sem_query.specs.Parts.{pairs}
use Rattle.sem_query.specs.Meaning.{new_answers}
use Rattle.sem_query.specs.Cells.{synopsis}
use Rattle.sem_query.specs.Combinations.{found_in}
use Rattle.sem_query.specs.Future.{future}
use Rattle.sem_laws.specs.HotRooms.{HotRooms}
use Rattle.sem_laws.proofs.HotRoomsPlan.{hot_rooms-limits, hot_rooms-planned, hot_rooms-keeps, hot_rooms-accepted, hot_rooms-accepted_shared}

pub hot-rooms : HotRooms
unfolding pairs synopsis found_in future new_answers
hot-rooms = record {
  within = hot_rooms-limits;
  plan = hot_rooms-planned;
  violation = hot_rooms-keeps;
  verdict = hot_rooms-accepted;
  numbers = refl;
  shared = refl;
  shared_verdict = hot_rooms-accepted_shared;
  first = refl;
  second = refl;
  meant_second = refl;
  third = refl;
  meant_third = refl;
  fourth = refl;
  meant_fourth = refl;
}
