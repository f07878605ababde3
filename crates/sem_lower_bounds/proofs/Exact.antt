-- Both halves: a query has a right evaluator of few states exactly where no condition is violated.
use Rattle.std.proofs.Common.{◌≡◌, ◌≢◌, List, [], refl, Option, Some, None}
use Rattle.sem_query.specs.declared.plan.PartPlan.{PartPlan}
use Rattle.sem_query.specs.Query.{QueryValue, IsWithinLimits}
use Rattle.sem_query.specs.Violation.{Failure, IsViolation, filter, first}
use Rattle.sem_query.specs.Plan.{IsPlanned}
use Rattle.sem_query.specs.Plan as planned
use Rattle.sem_lower_bounds.specs.Plain.{HasNoDomains, IsPlain}
use Rattle.sem_lower_bounds.specs.States.{Evaluator, IsRight, HasFewStates, NeedsStates}
use Rattle.sem_lower_bounds.specs.Soft.{no_distinct, CountedConditionsAreExact}
use Rattle.sem_lower_bounds.specs.Accepted.{FewStatesDecide, ConditionsAreExact, NoneLacksPlan}
use Rattle.sem_lower_bounds.proofs.Possible.{Possible, possible, followed}
use Rattle.sem_lower_bounds.proofs.FewStates.{accepted-has-states, told-are-polynomial, polynomially-many-are-few}
use Rattle.sem_lower_bounds.proofs.SomePlan.{some_plan}
use Rattle.sem_lower_bounds.proofs.Separated.{few-refute}
use Rattle.sem_lower_bounds.proofs.Refused.{refused-needs-states, telling-needs-states}

-- an evaluator that is right and has few states
abbrev pub HasRight : QueryValue → Type 0
HasRight q = (e : Evaluator) × IsRight q e × HasFewStates e

has-right : (q : QueryValue) (plan : List PartPlan) → IsWithinLimits q → HasNoDomains q → IsPlanned q plan → IsViolation q None → HasRight q
has-right q plan within none is violation =
    let o = accepted-has-states q plan within none is violation in
    (o.0, o.1, polynomially-many-are-few o.0 (told-are-polynomial o.0 q plan o.2))

-- where there is one, no condition is violated
none_violated : (q : QueryValue) → IsWithinLimits q → IsPlain q → (r : Option Failure) → IsViolation q r → HasRight q → r ≡ None
none_violated q within plain None violation h = refl
none_violated q within plain (Some f) violation h = absurd (few-refute q h.0 h.1 h.2 (refused-needs-states q within plain f violation))

pub few-states-decide : FewStatesDecide
few-states-decide q plan within plain is r violation = (none_violated q within plain r violation, at r violation)
  where
    at : (r : Option Failure) → IsViolation q r → r ≡ None → HasRight q
    at None v e = has-right q plan within plain.domains is v
    at (Some f) v e = absurd cc

some_planned : (q : QueryValue) → HasNoDomains q → (r : Option Failure) → IsViolation q r → Possible ((plan : List PartPlan) × IsPlanned q plan)
some_planned q none r (filter f e) = possible ([], planned.filter f refl)
some_planned q none r (first joins parts are firsts) = followed (some_plan q none parts are) (λ o. possible (o.0, planned.parts joins o.1))

pub none-lacks-plan : NoneLacksPlan
none-lacks-plan q none r violation n = some_planned q none r violation (λ o. n o.0 o.1)

-- where no condition is violated, that there is no such evaluator is absurd
pub some-right : (q : QueryValue) → IsWithinLimits q → HasNoDomains q → IsViolation q None → Possible (HasRight q)
some-right q within none violation = followed (some_planned q none None violation) (λ o. possible (has-right q o.0 within none o.1 violation))

pub conditions-are-exact : ConditionsAreExact
conditions-are-exact q within plain r violation = (from r violation, into r violation)
  where
    from : (r : Option Failure) → IsViolation q r → NeedsStates q → r ≢ None
    from None v n e = some-right q within plain.domains v (λ h. few-refute q h.0 h.1 h.2 n)
    from (Some f) v n e = cc

    into : (r : Option Failure) → IsViolation q r → r ≢ None → NeedsStates q
    into None v n = absurd (n refl)
    into (Some f) v n = refused-needs-states q within plain f v

pub counted-conditions-are-exact : CountedConditionsAreExact
counted-conditions-are-exact q within none whole d r violation = (from r violation, into r violation)
  where
    from : (r : Option Failure) → IsViolation q r → NeedsStates q → r ≢ None
    from None v n e = some-right q within none v (λ (h : HasRight q). few-refute q h.0 h.1 h.2 n)
    from (Some f) v n e = cc

    into : (r : Option Failure) → IsViolation q r → r ≢ None → NeedsStates q
    into None v n = absurd (n refl)
    into (Some f) v n = telling-needs-states q within none whole f v (no_distinct d)
