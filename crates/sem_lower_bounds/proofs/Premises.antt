-- The premises of the law on refused queries are needed.
use Rattle.std.proofs.Common.{ℕ, List, [], ◌∷◌, length, ◌≤◌, true, false, refl, arith, Contains}
use Rattle.sem_query.specs.declared.condition.Condition.TheVariants.{C1}
use Rattle.sem_query.specs.Query.{QueryValue}
use Rattle.sem_query.specs.Meaning.{Arrival}
use Rattle.sem_laws.proofs.Limits.{within-limits}
use Rattle.sem_lower_bounds.specs.States.{Evaluator, after, AreWithin}
use Rattle.sem_lower_bounds.specs.Premises.{PremisesAreNeeded}
use Rattle.sem_lower_bounds.specs.Cases.{s_a, seen}
use Rattle.sem_lower_bounds.proofs.Plainly.{plain-if}
use Rattle.sem_lower_bounds.proofs.OneState.{filters-need-few-states}
use Rattle.sem_lower_bounds.proofs.Separated.{few-refute}
use Rattle.sem_lower_bounds.proofs.WorkedRefusals.{refusals-are-these}

-- SELECT S.a FROM S
abbrev all_rows : QueryValue
all_rows = record { distinct = false; from = 0 ∷ []; select = s_a ∷ []; atoms = []; domains = []; compact = false }

no_row : (e : Evaluator) (bound : ℕ) (history : List Arrival) → length history ≤ 0 → AreWithin bound history → Contains (e.start ∷ []) (after e e.start history)
no_row e bound [] l w = (0, omega arith, refl)
no_row e bound (r ∷ history) l w = absurd (omega (arith, l))

pub premises-are-needed : PremisesAreNeeded
premises-are-needed = record {
  violation = λ f. (
      let one = filters-need-few-states all_rows refl in
      few-refute all_rows one.0 one.1 one.2 (f all_rows (within-limits all_rows refl) (plain-if all_rows refl refl refl))
      );
  right = λ f. (
      let one = filters-need-few-states all_rows refl in
      let refused = refusals-are-these.selected true in
      f (seen true) refused.limits refused.plain record { part = 1; condition = C1; attr = s_a } refused.violation one.0 one.2
      );
  fewer = λ e bound. record { states = e.start ∷ []; size = omega arith; all = no_row e bound };
}
