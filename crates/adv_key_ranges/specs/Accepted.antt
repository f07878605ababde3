-- What a session with no other query decides.
use Rattle.std.specs.Prelude.{Bool, true, false}
use Rattle.std.specs.declared.option.Option.{Option}
use Rattle.std.specs.declared.option.Option.TheVariants.{None, Some}
use Rattle.sem_query.specs.declared.decision.Which.{Which}
use Rattle.sem_query.specs.declared.decision.Which.TheVariants.{Parts}
use Rattle.sem_query.specs.declared.plan.Numbers.{Numbers}
use Rattle.sem_query.specs.Query.{QueryValue, IsWithinLimits}
use Rattle.sem_query.specs.Verdict.{limit, accepted}
use Rattle.sem_forms.specs.Forms.{IsFormVerdict}
use Rattle.adv_mends.specs.declared.judging.Judgement.{Judgement}
use Rattle.adv_mends.specs.declared.judging.Judgement.TheVariants as judgement

-- the query is within the limits of a statement, and where all 16,384 pages are free it is accepted with its numbers
pub record IsAccepted (shared : Bool) (q : QueryValue) : Type 0 where
  pub limits : IsWithinLimits q
  pub numbers : Numbers
  pub verdict : IsFormVerdict shared q 16384 (accepted numbers)

-- the limit that refuses it there, or that none does
abbrev pub IsLimitOf : Bool → QueryValue → Option Which → Type 0
IsLimitOf shared q None = (which : Which) → ¬ IsFormVerdict shared q 16384 (limit which)
IsLimitOf shared q (Some which) = IsFormVerdict shared q 16384 (limit which)

-- ---- by judgements

-- whether a judgement accepts with numbers
abbrev pub has_numbers : Judgement → Bool
has_numbers judgement.Filter = false
has_numbers (judgement.Accepted numbers) = true
has_numbers (judgement.Above which value) = false
has_numbers (judgement.Violation part condition attr) = false
has_numbers judgement.ManyParts = false

-- the limit of a judgement, or none
abbrev pub limit_in : Judgement → Option Which
limit_in judgement.Filter = None
limit_in (judgement.Accepted numbers) = None
limit_in (judgement.Above which value) = Some which
limit_in (judgement.Violation part condition attr) = None
limit_in judgement.ManyParts = Some Parts
