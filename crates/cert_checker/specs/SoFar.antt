-- The decision on some sign vectors.
use Rattle.std.specs.Prelude.{◌≡◌, ℕ, suc, if◌then◌else◌, List, [], ◌∷◌, ◌++◌, length}
use Rattle.std.specs.declared.option.Option.{Option}
use Rattle.std.specs.declared.option.Option.TheVariants.{None, Some}
use Rattle.sem_query.specs.declared.atom.Attr.{Attr}
use Rattle.sem_query.specs.declared.condition.Condition.{Condition}
use Rattle.sem_query.specs.declared.part.Sign.{Sign}
use Rattle.sem_query.specs.declared.decision.Decision.{Decision}
use Rattle.sem_query.specs.declared.decision.Decision.TheVariants as decision
use Rattle.sem_query.specs.Query.{QueryValue, is_filter}
use Rattle.sem_query.specs.declared.first_break.Break.{Break}
use Rattle.cert_checker.specs.declared.decision.DecisionSoFar.{DecisionSoFar}
use Rattle.cert_checker.specs.Shown.{IsFirstFailureBy, failure_of}

-- the decision where the part with this number breaks that condition, or meets all
abbrev pub decision_at : ℕ → Option Break → Decision
decision_at number None = decision.Bounded
decision_at number (Some b) = decision.Violation number b.condition b.attr

-- the decision by parts: a filter is bounded
abbrev pub plain_decision : QueryValue → Decision → Decision
plain_decision q d = if is_filter q then decision.Bounded else d

-- it names the first failure among the sign vectors, by what breaks a condition, or there is none
abbrev pub IsSoFar : (List Sign → Condition → Attr → Type 0) → List (List Sign) → DecisionSoFar → Type 0
IsSoFar B xs d = IsFirstFailureBy B xs (failure_of d.decision)

-- where it was that of as many sign vectors as come before the one with this number, it is now that of one more
abbrev pub TakesLeaf : (List Sign → Condition → Attr → Type 0) → List Sign → ℕ → DecisionSoFar → DecisionSoFar → Type 0
TakesLeaf B s number old new = (xs : List (List Sign)) → number ≡ suc (length xs) → IsSoFar B xs old → IsSoFar B (xs ++ s ∷ []) new
