-- Worked queries with soft comparisons, computed, and that the first meets all that the laws ask.
use Rattle.std.proofs.Common.{◌≡◌, List, [], ◌∷◌, true, refl, ℤ, pos, None}
use Rattle.sem_query.specs.Assignment.{Assignment}
use Rattle.sem_query.specs.Query.{IsWithinLimits}
use Rattle.sem_query.specs.Violation.{IsViolation}
use Rattle.sem_query.specs.Plan.{IsPlan}
use Rattle.sem_query.specs.Parts.{pairs}
use Rattle.sem_query.specs.Meaning.{assignment_of, new_answers}
use Rattle.sem_query.specs.Cells.{synopsis}
use Rattle.sem_query.specs.Combinations.{found_in}
use Rattle.sem_query.specs.Future.{future}
use Rattle.sem_laws.specs.SoftCases.{one_to_three, one_to_three_plan, SoftComparisons}
use Rattle.sem_laws.proofs.Limits.{within-limits}
use Rattle.sem_laws.proofs.PlanIs.{plan_test, is-plan}
use Rattle.sem_laws.proofs.PlanKeeps.{unbroken, no-violation}

-- a row of each part
abbrev row : ℤ → Assignment
row k = assignment_of ((k ∷ []) ∷ [])

abbrev rows_within : List (List Assignment)
rows_within = (row (pos 1) ∷ []) ∷ (row (pos 2) ∷ []) ∷ (row (pos 3) ∷ []) ∷ []

passes : plan_test one_to_three one_to_three_plan rows_within ≡ true
unfolding pairs
passes = refl

keeps : unbroken one_to_three one_to_three_plan rows_within ≡ true
unfolding pairs
keeps = refl

limits : IsWithinLimits one_to_three
limits = within-limits one_to_three refl

planned : IsPlan one_to_three one_to_three_plan
planned = is-plan one_to_three one_to_three_plan rows_within passes

unviolated : IsViolation one_to_three None
unviolated = no-violation one_to_three one_to_three_plan rows_within refl passes keeps

pub soft-comparisons : SoftComparisons
unfolding pairs synopsis found_in future new_answers
soft-comparisons = record {
  within = limits;
  plan = planned;
  violation = unviolated;
  bounds = refl;
  listed = refl;
  once = refl;
  numbers = refl;
  cells = refl;
  rows = refl;
}
