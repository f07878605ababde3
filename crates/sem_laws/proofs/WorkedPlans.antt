-- Plans of worked queries, each with some assignments of each part, which show what does not hold in all of them.
use Rattle.std.proofs.Common.{◌≡◌, List, [], ◌∷◌, true, false, refl, ℤ, pos, None, arith}
use Rattle.sem_query.specs.Parts.{pairs, HasMoreParts}
use Rattle.sem_query.specs.Plan.{IsPlan}
use Rattle.sem_query.specs.Assignment.{Assignment}
use Rattle.sem_query.specs.Meaning.{assignment_of}
use Rattle.sem_query.specs.Numbers.{numbers_of}
use Rattle.sem_query.specs.Query.{IsWithinLimits}
use Rattle.sem_query.specs.Verdict.{IsVerdict, accepted, of_plan}
use Rattle.sem_query.specs.Violation.{IsViolation}
use Rattle.sem_laws.specs.Cases.{hot_room, hot_room_plan, three_ways, three_ways_plan, two_ways, two_ways_plan, equal_columns, equal_columns_plan, wide_join, wide_join_plan}
use Rattle.sem_laws.proofs.CountedParts.{parts_are_counted}
use Rattle.sem_laws.proofs.Limits.{limits_test, within-limits}
use Rattle.sem_laws.proofs.PlanIs.{plan_test, is-plan}
use Rattle.sem_laws.proofs.PlanKeeps.{unbroken, no-violation}

-- a combination of rows, read as an assignment
abbrev rows : List (List ℤ) → Assignment
rows combination = assignment_of combination

abbrev hot_room_within : List (List Assignment)
hot_room_within =
    (rows ((pos 2 ∷ pos 11 ∷ []) ∷ (pos 2 ∷ pos 10 ∷ []) ∷ []) ∷ [])
    ∷ []

hot_room-passes : plan_test hot_room hot_room_plan hot_room_within ≡ true
unfolding pairs
hot_room-passes = refl

pub hot_room-planned : IsPlan hot_room hot_room_plan
hot_room-planned = is-plan hot_room hot_room_plan hot_room_within hot_room-passes

abbrev three_ways_within : List (List Assignment)
three_ways_within =
    (rows ((pos 1 ∷ []) ∷ (pos 2 ∷ []) ∷ (pos 3 ∷ []) ∷ []) ∷ [])
    ∷ []

three_ways-passes : plan_test three_ways three_ways_plan three_ways_within ≡ true
unfolding pairs
three_ways-passes = refl

pub three_ways-planned : IsPlan three_ways three_ways_plan
three_ways-planned = is-plan three_ways three_ways_plan three_ways_within three_ways-passes

abbrev pub two_ways_within : List (List Assignment)
two_ways_within =
    (rows ((pos 11 ∷ pos 12 ∷ []) ∷ (pos 13 ∷ []) ∷ []) ∷ [])
    ∷ (rows ((pos 11 ∷ pos 13 ∷ []) ∷ (pos 14 ∷ []) ∷ []) ∷ [])
    ∷ (rows ((pos 11 ∷ pos 11 ∷ []) ∷ (pos 12 ∷ []) ∷ []) ∷ [])
    ∷ (rows ((pos 11 ∷ pos 11 ∷ []) ∷ (pos 13 ∷ []) ∷ []) ∷ [])
    ∷ (rows ((pos 11 ∷ pos 8 ∷ []) ∷ (pos 9 ∷ []) ∷ []) ∷ [])
    ∷ (rows ((pos 11 ∷ pos 9 ∷ []) ∷ (pos 10 ∷ []) ∷ []) ∷ [])
    ∷ (rows ((pos 11 ∷ pos 9 ∷ []) ∷ (pos 11 ∷ []) ∷ []) ∷ [])
    ∷ (rows ((pos 11 ∷ pos 9 ∷ []) ∷ (pos 12 ∷ []) ∷ []) ∷ [])
    ∷ (rows ((pos 11 ∷ pos 9 ∷ []) ∷ (pos 13 ∷ []) ∷ []) ∷ [])
    ∷ (rows ((pos 11 ∷ pos 10 ∷ []) ∷ (pos 11 ∷ []) ∷ []) ∷ [])
    ∷ (rows ((pos 11 ∷ pos 10 ∷ []) ∷ (pos 12 ∷ []) ∷ []) ∷ [])
    ∷ (rows ((pos 11 ∷ pos 10 ∷ []) ∷ (pos 13 ∷ []) ∷ []) ∷ [])
    ∷ []

pub two_ways-passes : plan_test two_ways two_ways_plan two_ways_within ≡ true
unfolding pairs
two_ways-passes = refl

pub two_ways-planned : IsPlan two_ways two_ways_plan
two_ways-planned = is-plan two_ways two_ways_plan two_ways_within two_ways-passes

abbrev equal_columns_within : List (List Assignment)
equal_columns_within =
    (rows ((pos 11 ∷ []) ∷ (pos 11 ∷ []) ∷ []) ∷ rows ((pos 12 ∷ []) ∷ (pos 12 ∷ []) ∷ []) ∷ [])
    ∷ []

equal_columns-passes : plan_test equal_columns equal_columns_plan equal_columns_within ≡ true
unfolding pairs
equal_columns-passes = refl

pub equal_columns-planned : IsPlan equal_columns equal_columns_plan
equal_columns-planned = is-plan equal_columns equal_columns_plan equal_columns_within equal_columns-passes

abbrev wide_join_within : List (List Assignment)
wide_join_within =
    (rows ((pos 0 ∷ []) ∷ (pos 1 ∷ []) ∷ (pos 2 ∷ []) ∷ []) ∷ rows ((pos 0 ∷ []) ∷ (pos 2998 ∷ []) ∷ (pos 2999 ∷ []) ∷ []) ∷ [])
    ∷ []

wide_join-passes : plan_test wide_join wide_join_plan wide_join_within ≡ true
unfolding pairs
wide_join-passes = refl

pub wide_join-planned : IsPlan wide_join wide_join_plan
wide_join-planned = is-plan wide_join wide_join_plan wide_join_within wide_join-passes

-- the query with an extreme meets all that the laws ask
hot_room-limited : limits_test hot_room ≡ true
hot_room-limited = refl

pub hot_room-limits : IsWithinLimits hot_room
hot_room-limits = within-limits hot_room hot_room-limited

hot_room-keep : unbroken hot_room hot_room_plan hot_room_within ≡ true
unfolding pairs
hot_room-keep = refl

pub hot_room-keeps : IsViolation hot_room None
hot_room-keeps = no-violation hot_room hot_room_plan hot_room_within refl hot_room-passes hot_room-keep

few-parts : HasMoreParts hot_room 4096 → ⊥
few-parts m = absurd (omega (arith, (parts_are_counted hot_room _ 4096 hot_room-planned.parts).0 m))

pub hot_room-accepted : IsVerdict false hot_room 1 (accepted (numbers_of hot_room hot_room_plan))
unfolding pairs
hot_room-accepted = of_plan refl few-parts hot_room-keeps hot_room_plan hot_room-planned refl
