-- Worked queries, computed.
use Rattle.std.proofs.Common.{refl}
use Rattle.sem_query.specs.Parts.{pairs}
use Rattle.sem_query.specs.Meaning.{new_answers}
use Rattle.sem_query.specs.Cells.{synopsis}
use Rattle.sem_query.specs.Combinations.{found_in}
use Rattle.sem_query.specs.Future.{future}
use Rattle.sem_laws.proofs.WorkedPlans.{hot_room-limits, hot_room-planned, hot_room-keeps, hot_room-accepted, three_ways-planned, two_ways-planned, equal_columns-planned, wide_join-planned}
use Rattle.sem_laws.specs.Cases.{ExtremesDecide, CountsMultiply, OneTableForAllParts, NumbersAreThese}

pub extremes-decide : ExtremesDecide
unfolding pairs synopsis found_in future new_answers
extremes-decide = record { within = hot_room-limits; no_filter = refl; plan = hot_room-planned; violation = hot_room-keeps; verdict = hot_room-accepted; cells = refl; under = refl; meant_under = refl; over = refl; meant_over = refl; numbers = refl }

pub counts-multiply : CountsMultiply
unfolding pairs synopsis found_in future new_answers
counts-multiply = record { plan = three_ways-planned; cells = refl; answers = refl; meant = refl; numbers = refl }

pub one-table-for-all-parts : OneTableForAllParts
unfolding pairs synopsis found_in future new_answers
one-table-for-all-parts = record { plan = two_ways-planned; cells = refl; table = refl; without = refl; answers = refl; meant = refl; numbers = refl; shared = refl }

pub numbers-are-these : NumbersAreThese
unfolding pairs
numbers-are-these = record { joined_plan = equal_columns-planned; wide_plan = wide_join-planned; joined = refl; wide = refl; pages = refl; refused = refl; accepted = refl; full = refl }
