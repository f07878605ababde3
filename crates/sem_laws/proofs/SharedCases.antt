-- Worked queries with shared cells, computed.
use Rattle.std.proofs.Common.{◌≡◌, true, refl, subst, None, arith}
use Rattle.sem_query.specs.Parts.{pairs, HasMoreParts}
use Rattle.sem_query.specs.Meaning.{new_answers}
use Rattle.sem_query.specs.Combinations.{found_in}
use Rattle.sem_query.specs.Future.{future}
use Rattle.sem_query.specs.Query.{IsWithinLimits}
use Rattle.sem_query.specs.Sharing.{synopsis_in, shared_numbers, IsSharedPlan}
use Rattle.sem_query.specs.Verdict.{IsVerdict, accepted, pool, of_plan}
use Rattle.sem_query.specs.Violation.{IsViolation}
use Rattle.sem_laws.specs.Cases.{two_ways, two_ways_plan}
use Rattle.sem_laws.specs.SharedCases.{two_ways_shared_plan, BoxesAreMovedTogether, CellsAreShared}
use Rattle.sem_laws.proofs.CountedParts.{parts_are_counted}
use Rattle.sem_laws.proofs.Limits.{limits_test, within-limits}
use Rattle.sem_laws.proofs.PlanKeeps.{unbroken, no-violation}
use Rattle.sem_laws.proofs.Sufficiency.{part-plans}
use Rattle.sem_laws.proofs.MovedBoxes.{shared-plans-exist}
use Rattle.sem_laws.proofs.WorkedPlans.{two_ways-planned, two_ways_within, two_ways-passes}

pub boxes-are-moved-together : BoxesAreMovedTogether
unfolding pairs
boxes-are-moved-together = refl

two_ways-shared : IsSharedPlan two_ways two_ways_shared_plan
two_ways-shared = subst (IsSharedPlan two_ways) boxes-are-moved-together (shared-plans-exist two_ways two_ways_plan (part-plans two_ways two_ways_plan two_ways-planned))

two_ways-limited : limits_test two_ways ≡ true
two_ways-limited = refl

two_ways-limits : IsWithinLimits two_ways
two_ways-limits = within-limits two_ways two_ways-limited

two_ways-keep : unbroken two_ways two_ways_plan two_ways_within ≡ true
unfolding pairs
two_ways-keep = refl

two_ways-keeps : IsViolation two_ways None
two_ways-keeps = no-violation two_ways two_ways_plan two_ways_within refl two_ways-passes two_ways-keep

few-parts : HasMoreParts two_ways 4096 → ⊥
few-parts m = absurd (omega (arith, (parts_are_counted two_ways _ 4096 two_ways-planned.parts).0 m))

two_ways-accepted : IsVerdict true two_ways 1 (accepted (shared_numbers two_ways two_ways_shared_plan))
unfolding pairs
two_ways-accepted = of_plan refl few-parts two_ways-keeps two_ways_shared_plan two_ways-shared refl

two_ways-full : IsVerdict true two_ways 0 pool
unfolding pairs
two_ways-full = of_plan refl few-parts two_ways-keeps two_ways_shared_plan two_ways-shared refl

pub cells-are-shared : CellsAreShared
unfolding pairs synopsis_in found_in future new_answers
cells-are-shared = record {
  within = two_ways-limits;
  no_filter = refl;
  plan = two_ways-shared;
  violation = two_ways-keeps;
  numbers = refl;
  verdict = two_ways-accepted;
  full = two_ways-full;
  cells = refl;
  without = refl;
  answers = refl;
  above = refl;
  meant_above = refl;
}
