-- The verdict on a query: why it is refused, or the numbers that are announced.
use Rattle.std.specs.Prelude.{◌≡◌, ℕ, Bool, List, nat_lt, if◌then◌else◌, IsTrue, IsFalse}
use Rattle.std.specs.declared.option.Option.{Option}
use Rattle.std.specs.declared.option.Option.TheVariants.{None, Some}
use Rattle.sem_query.specs.declared.decision.Decision.{Decision}
use Rattle.sem_query.specs.declared.decision.Decision.TheVariants as decision
use Rattle.sem_query.specs.declared.decision.Which.{Which}
use Rattle.sem_query.specs.declared.decision.Which.TheVariants.{Parts, Cells, Answers, Work}
use Rattle.sem_query.specs.declared.plan.Numbers.{Numbers}
use Rattle.sem_query.specs.declared.plan.PartPlan.{PartPlan}
use Rattle.sem_query.specs.Query.{QueryValue, is_filter}
use Rattle.sem_query.specs.Parts.{HasMoreParts}
use Rattle.sem_query.specs.Violation.{Failure, IsViolation}
use Rattle.sem_query.specs.Numbers.{page_count}
use Rattle.sem_query.specs.Sharing.{IsPlanFor, numbers_for}

-- what the parts of a query say: all conditions are met, or the first failure
abbrev pub IsDecision : QueryValue → Decision → Type 0
IsDecision q decision.Bounded = IsViolation q None
IsDecision q (decision.Violation part condition attr) = IsViolation q (Some record { part = part; condition = condition; attr = attr })

-- what a query is answered with
pub data Verdict : Type 0 where
  filter : Verdict
  violation : Failure → Verdict
  limit : Which → Verdict
  pool : Verdict
  accepted : Numbers → Verdict

-- the most that there may be of each number
abbrev pub most : Which → ℕ
most Parts = 4096
most Cells = 262144
most Answers = 65536
most Work = 4194304

-- the number of this kind
abbrev pub number_of : Numbers → Which → ℕ
number_of numbers Parts = numbers.parts
number_of numbers Cells = numbers.cells
number_of numbers Answers = numbers.answers
number_of numbers Work = numbers.work

-- whether a number is above its limit
abbrev pub is_above : Numbers → Which → Bool
is_above numbers which = nat_lt (most which) (number_of numbers which)

-- the first of cells, answers and work that is above its limit
abbrev pub first_above : Numbers → Option Which
first_above numbers =
    if is_above numbers Cells then Some Cells
    else (if is_above numbers Answers then Some Answers
    else (if is_above numbers Work then Some Work else None))

-- the verdict where this number is above its limit, or none is: with none, the free pages decide
abbrev pub verdict_after : Option Which → Numbers → ℕ → Verdict
verdict_after (Some which) numbers free = limit which
verdict_after None numbers free = if nat_lt free (page_count numbers.cells) then pool else accepted numbers

-- the verdict by the numbers, with so many free pages
abbrev pub verdict_by : Numbers → ℕ → Verdict
verdict_by numbers free = verdict_after (first_above numbers) numbers free

-- the verdict on a query, without shared cells or with them, with so many free pages, by the first case that applies
pub data IsVerdict (shared : Bool) (q : QueryValue) (free : ℕ) (verdict : Verdict) : Type 0 where
  of_filter : IsTrue (is_filter q) → verdict ≡ filter → IsVerdict shared q free verdict
  of_many_parts : IsFalse (is_filter q) → HasMoreParts q (most Parts) → verdict ≡ limit Parts → IsVerdict shared q free verdict
  of_violation : IsFalse (is_filter q) → ¬ HasMoreParts q (most Parts) → (f : Failure) → IsViolation q (Some f) → verdict ≡ violation f → IsVerdict shared q free verdict
  of_plan : IsFalse (is_filter q) → ¬ HasMoreParts q (most Parts) → IsViolation q None → (parts : List PartPlan) → IsPlanFor shared q parts → verdict ≡ verdict_by (numbers_for shared q parts) free → IsVerdict shared q free verdict
