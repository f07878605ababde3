-- The plan and the verdict of hot-rooms, with some assignments of each part, which show what does not hold in all of them.
use Rattle.std.proofs.Common.{◌≡◌, List, [], ◌∷◌, true, false, refl, ℤ, pos, neg_ℤ, None, arith}
use Rattle.sem_query.specs.Parts.{pairs, HasMoreParts}
use Rattle.sem_query.specs.Plan.{IsPlan}
use Rattle.sem_query.specs.Assignment.{Assignment}
use Rattle.sem_query.specs.Meaning.{assignment_of}
use Rattle.sem_query.specs.Numbers.{numbers_of}
use Rattle.sem_query.specs.Query.{IsWithinLimits}
use Rattle.sem_query.specs.Sharing.{shared_numbers}
use Rattle.sem_query.specs.Verdict.{IsVerdict, accepted, of_plan}
use Rattle.sem_query.specs.Violation.{IsViolation}
use Rattle.sem_laws.proofs.CountedParts.{parts_are_counted}
use Rattle.sem_laws.proofs.Limits.{limits_test, within-limits}
use Rattle.sem_laws.proofs.PlanKeeps.{unbroken, no-violation}
use Rattle.sem_laws.specs.Sharing.{moved_together}
use Rattle.sem_laws.proofs.Sufficiency.{part-plans}
use Rattle.sem_laws.proofs.MovedBoxes.{shared-plans-exist}
use Rattle.sem_laws.specs.HotRooms.{hot_rooms, hot_rooms_plan}
use Rattle.sem_laws.proofs.PlanIs.{plan_test, is-plan}

-- a combination of rows, read as an assignment
abbrev pub rows : List (List ℤ) → Assignment
rows combination = assignment_of combination

abbrev pub hot_rooms_within : List (List Assignment)
hot_rooms_within =
    (rows ((pos 1 ∷ pos 3 ∷ []) ∷ (pos 1 ∷ pos 2 ∷ []) ∷ []) ∷ [])
    ∷ (rows ((pos 1 ∷ pos 2 ∷ []) ∷ (pos 1 ∷ pos 1 ∷ []) ∷ []) ∷ rows ((pos 2 ∷ pos 3 ∷ []) ∷ (pos 2 ∷ pos 2 ∷ []) ∷ []) ∷ [])
    ∷ (rows ((pos 1 ∷ pos 2 ∷ []) ∷ (pos 1 ∷ neg_ℤ (pos 1) ∷ []) ∷ []) ∷ rows ((pos 2 ∷ pos 3 ∷ []) ∷ (pos 2 ∷ neg_ℤ (pos 1) ∷ []) ∷ []) ∷ [])
    ∷ (rows ((pos 1 ∷ pos 2 ∷ []) ∷ (pos 1 ∷ pos 0 ∷ []) ∷ []) ∷ rows ((pos 2 ∷ pos 3 ∷ []) ∷ (pos 2 ∷ pos 0 ∷ []) ∷ []) ∷ [])
    ∷ (rows ((pos 2 ∷ pos 3 ∷ []) ∷ (pos 2 ∷ pos 1 ∷ []) ∷ []) ∷ [])
    ∷ (rows ((pos 1 ∷ pos 4 ∷ []) ∷ (pos 1 ∷ pos 2 ∷ []) ∷ []) ∷ rows ((pos 2 ∷ pos 4 ∷ []) ∷ (pos 2 ∷ pos 3 ∷ []) ∷ []) ∷ [])
    ∷ (rows ((pos 1 ∷ pos 4 ∷ []) ∷ (pos 1 ∷ pos 1 ∷ []) ∷ []) ∷ rows ((pos 3 ∷ pos 4 ∷ []) ∷ (pos 3 ∷ pos 3 ∷ []) ∷ []) ∷ [])
    ∷ (rows ((pos 1 ∷ pos 4 ∷ []) ∷ (pos 1 ∷ neg_ℤ (pos 1) ∷ []) ∷ []) ∷ rows ((pos 3 ∷ pos 4 ∷ []) ∷ (pos 3 ∷ neg_ℤ (pos 1) ∷ []) ∷ []) ∷ [])
    ∷ (rows ((pos 1 ∷ pos 4 ∷ []) ∷ (pos 1 ∷ pos 0 ∷ []) ∷ []) ∷ rows ((pos 3 ∷ pos 4 ∷ []) ∷ (pos 3 ∷ pos 0 ∷ []) ∷ []) ∷ [])
    ∷ (rows ((pos 2 ∷ pos 4 ∷ []) ∷ (pos 2 ∷ pos 1 ∷ []) ∷ []) ∷ rows ((pos 3 ∷ pos 4 ∷ []) ∷ (pos 3 ∷ pos 2 ∷ []) ∷ []) ∷ [])
    ∷ (rows ((pos 1 ∷ pos 5 ∷ []) ∷ (pos 1 ∷ pos 2 ∷ []) ∷ []) ∷ rows ((pos 2 ∷ pos 5 ∷ []) ∷ (pos 2 ∷ pos 3 ∷ []) ∷ []) ∷ [])
    ∷ (rows ((pos 1 ∷ pos 5 ∷ []) ∷ (pos 1 ∷ pos 4 ∷ []) ∷ []) ∷ rows ((pos 3 ∷ pos 5 ∷ []) ∷ (pos 3 ∷ pos 4 ∷ []) ∷ []) ∷ [])
    ∷ (rows ((pos 1 ∷ pos 6 ∷ []) ∷ (pos 1 ∷ pos 5 ∷ []) ∷ []) ∷ rows ((pos 3 ∷ pos 6 ∷ []) ∷ (pos 3 ∷ pos 5 ∷ []) ∷ []) ∷ [])
    ∷ (rows ((pos 1 ∷ pos 5 ∷ []) ∷ (pos 1 ∷ pos 1 ∷ []) ∷ []) ∷ rows ((pos 3 ∷ pos 5 ∷ []) ∷ (pos 3 ∷ pos 3 ∷ []) ∷ []) ∷ [])
    ∷ (rows ((pos 1 ∷ pos 5 ∷ []) ∷ (pos 1 ∷ neg_ℤ (pos 1) ∷ []) ∷ []) ∷ rows ((pos 3 ∷ pos 5 ∷ []) ∷ (pos 3 ∷ neg_ℤ (pos 1) ∷ []) ∷ []) ∷ [])
    ∷ (rows ((pos 1 ∷ pos 5 ∷ []) ∷ (pos 1 ∷ pos 0 ∷ []) ∷ []) ∷ rows ((pos 3 ∷ pos 5 ∷ []) ∷ (pos 3 ∷ pos 0 ∷ []) ∷ []) ∷ [])
    ∷ (rows ((pos 2 ∷ pos 5 ∷ []) ∷ (pos 2 ∷ pos 1 ∷ []) ∷ []) ∷ rows ((pos 3 ∷ pos 5 ∷ []) ∷ (pos 3 ∷ pos 2 ∷ []) ∷ []) ∷ [])
    ∷ (rows ((pos 1 ∷ pos 1 ∷ []) ∷ (pos 1 ∷ neg_ℤ (pos 1) ∷ []) ∷ []) ∷ rows ((pos 3 ∷ pos 3 ∷ []) ∷ (pos 3 ∷ neg_ℤ (pos 1) ∷ []) ∷ []) ∷ [])
    ∷ (rows ((pos 1 ∷ pos 1 ∷ []) ∷ (pos 1 ∷ pos 0 ∷ []) ∷ []) ∷ rows ((pos 3 ∷ pos 3 ∷ []) ∷ (pos 3 ∷ pos 0 ∷ []) ∷ []) ∷ [])
    ∷ (rows ((pos 2 ∷ pos 2 ∷ []) ∷ (pos 2 ∷ pos 1 ∷ []) ∷ []) ∷ rows ((pos 3 ∷ pos 3 ∷ []) ∷ (pos 3 ∷ pos 2 ∷ []) ∷ []) ∷ [])
    ∷ (rows ((pos 1 ∷ neg_ℤ (pos 1) ∷ []) ∷ (pos 1 ∷ neg_ℤ (pos 2) ∷ []) ∷ []) ∷ rows ((pos 3 ∷ neg_ℤ (pos 1) ∷ []) ∷ (pos 3 ∷ neg_ℤ (pos 2) ∷ []) ∷ []) ∷ [])
    ∷ (rows ((pos 1 ∷ pos 0 ∷ []) ∷ (pos 1 ∷ neg_ℤ (pos 1) ∷ []) ∷ []) ∷ rows ((pos 3 ∷ pos 0 ∷ []) ∷ (pos 3 ∷ neg_ℤ (pos 1) ∷ []) ∷ []) ∷ [])
    ∷ (rows ((pos 2 ∷ pos 1 ∷ []) ∷ (pos 2 ∷ neg_ℤ (pos 1) ∷ []) ∷ []) ∷ rows ((pos 3 ∷ pos 2 ∷ []) ∷ (pos 3 ∷ neg_ℤ (pos 1) ∷ []) ∷ []) ∷ [])
    ∷ (rows ((pos 2 ∷ pos 1 ∷ []) ∷ (pos 2 ∷ pos 0 ∷ []) ∷ []) ∷ rows ((pos 3 ∷ pos 2 ∷ []) ∷ (pos 3 ∷ pos 0 ∷ []) ∷ []) ∷ [])
    ∷ (rows ((pos 3 ∷ pos 2 ∷ []) ∷ (pos 3 ∷ pos 1 ∷ []) ∷ []) ∷ [])
    ∷ []

hot_rooms-passes : plan_test hot_rooms hot_rooms_plan hot_rooms_within ≡ true
unfolding pairs
hot_rooms-passes = refl

pub hot_rooms-planned : IsPlan hot_rooms hot_rooms_plan
hot_rooms-planned = is-plan hot_rooms hot_rooms_plan hot_rooms_within hot_rooms-passes

hot_rooms-limited : limits_test hot_rooms ≡ true
hot_rooms-limited = refl

pub hot_rooms-limits : IsWithinLimits hot_rooms
hot_rooms-limits = within-limits hot_rooms hot_rooms-limited

hot_rooms-keep : unbroken hot_rooms hot_rooms_plan hot_rooms_within ≡ true
unfolding pairs
hot_rooms-keep = refl

pub hot_rooms-keeps : IsViolation hot_rooms None
hot_rooms-keeps = no-violation hot_rooms hot_rooms_plan hot_rooms_within refl hot_rooms-passes hot_rooms-keep

few-parts : HasMoreParts hot_rooms 4096 → ⊥
few-parts m = absurd (omega (arith, (parts_are_counted hot_rooms _ 4096 hot_rooms-planned.parts).0 m))

pub hot_rooms-accepted_shared : IsVerdict true hot_rooms 2 (accepted (shared_numbers hot_rooms hot_rooms_plan))
unfolding pairs
hot_rooms-accepted_shared =
    of_plan refl few-parts hot_rooms-keeps (moved_together hot_rooms hot_rooms_plan) (shared-plans-exist hot_rooms hot_rooms_plan (part-plans hot_rooms hot_rooms_plan hot_rooms-planned)) refl

pub hot_rooms-accepted : IsVerdict false hot_rooms 3 (accepted (numbers_of hot_rooms hot_rooms_plan))
unfolding pairs
hot_rooms-accepted = of_plan refl few-parts hot_rooms-keeps hot_rooms_plan hot_rooms-planned refl
