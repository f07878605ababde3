-- The parts of any query, in one vocabulary: those of a query that is not compact, and those of the split form of one that is.
use Rattle.std.specs.Prelude.{◌≡◌, ℕ, Bool, IsTrue, IsFalse, List}
use Rattle.std.specs.declared.option.Option.{Option}
use Rattle.std.specs.declared.option.Option.TheVariants.{None, Some}
use Rattle.sem_query.specs.declared.decision.Which.{Which}
use Rattle.sem_query.specs.declared.decision.Which.TheVariants as which
use Rattle.sem_query.specs.declared.plan.Numbers.{Numbers}
use Rattle.sem_query.specs.declared.plan.PartPlan.{PartPlan}
use Rattle.sem_query.specs.Query.{QueryValue, is_filter}
use Rattle.sem_query.specs.Parts.{HasMoreParts}
use Rattle.sem_query.specs.Sharing.{IsPlanFor, numbers_for}
use Rattle.sem_query.specs.Verdict.{Verdict, most, number_of, first_above, verdict_by}
use Rattle.sem_query.specs.Verdict as verdicts
use Rattle.sem_query.specs.Violation.{Failure, IsViolation}
use Rattle.plan_split_pairs.specs.Pairs.{HasManyPairs}
use Rattle.plan_split_pairs.specs.SplitParts.{HasMoreSplitParts}
use Rattle.plan_whole_form.specs.Numbers.{capped}
use Rattle.sem_forms.specs.Answers.{announced_answers}
use Rattle.sem_forms.specs.Split.{IsSplitFor}
use Rattle.sem_forms.specs.SplitBreaks.{IsSplitViolation}

-- there are more parts than a query may have; of a compact query more pairs too
pub data HasTooManyParts (q : QueryValue) : Type 0 where
  plain : IsFalse q.compact → HasMoreParts q (most which.Parts) → HasTooManyParts q
  pairs : IsTrue q.compact → HasManyPairs q → HasTooManyParts q
  split : IsTrue q.compact → HasMoreSplitParts q (most which.Parts) → HasTooManyParts q

-- the violation of a query by its parts: none for a filter, and else the first failure
pub data IsFormViolation (q : QueryValue) (r : Option Failure) : Type 0 where
  filter : IsTrue (is_filter q) → r ≡ None → IsFormViolation q r
  plain : IsFalse (is_filter q) → IsFalse q.compact → IsViolation q r → IsFormViolation q r
  split : IsFalse (is_filter q) → IsTrue q.compact → IsSplitViolation q r → IsFormViolation q r

-- the plans of the parts of a query that is no filter, without shared cells or with them
pub data IsPartsFor (shared : Bool) (q : QueryValue) (plan : List PartPlan) : Type 0 where
  plain : IsFalse q.compact → IsPlanFor shared q plan → IsPartsFor shared q plan
  split : IsTrue q.compact → IsSplitFor shared q plan → IsPartsFor shared q plan

-- and their numbers
abbrev pub form_numbers : Bool → QueryValue → List PartPlan → Numbers
form_numbers shared q plan = record (numbers_for shared q plan) { answers = announced_answers q plan }

-- the verdict on a query by its parts, without shared cells or with them, with so many free pages, by the first case that applies
pub data IsPartsVerdict (shared : Bool) (q : QueryValue) (free : ℕ) (verdict : Verdict) : Type 0 where
  of_filter : IsTrue (is_filter q) → verdict ≡ verdicts.filter → IsPartsVerdict shared q free verdict
  of_many_parts : IsFalse (is_filter q) → HasTooManyParts q → verdict ≡ verdicts.limit which.Parts → IsPartsVerdict shared q free verdict
  of_violation : IsFalse (is_filter q) → ¬ HasTooManyParts q → (f : Failure) → IsFormViolation q (Some f) → verdict ≡ verdicts.violation f → IsPartsVerdict shared q free verdict
  of_plan : IsFalse (is_filter q) → ¬ HasTooManyParts q → IsFormViolation q None → (parts : List PartPlan) → IsPartsFor shared q parts
      → verdict ≡ verdict_by (form_numbers shared q parts) free → IsPartsVerdict shared q free verdict

-- the first number of the query's parts, without shared cells or with them, that is above its limit, and that number as 64 bits keep it: a filter
-- has none
pub record IsOverLimit (shared : Bool) (q : QueryValue) (which : Which) (value : ℕ) : Type 0 where
  pub plain : IsFalse (is_filter q)
  pub parts : List PartPlan
  pub plan : IsPartsFor shared q parts
  pub first : first_above (form_numbers shared q parts) ≡ Some which
  pub kept : value ≡ capped (number_of (form_numbers shared q parts) which)
