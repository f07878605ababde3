-- An evaluator that is right and has few states is so on the rows of any catalog.
use Rattle.std.proofs.Common.{◌≢◌, ◌≤◌, ◌^◌, ℕ, refl, arith, Option, Some, None}
use Rattle.sem_query.specs.Query.{QueryValue}
use Rattle.sem_query.specs.Violation.{Failure, IsViolation}
use Rattle.sem_lower_bounds.specs.States.{Evaluator, IsRight, HasFewStates, HasFewFor}
use Rattle.sem_lower_bounds.specs.Catalog.{NeedsStatesOver}
use Rattle.sem_lower_bounds.specs.CatalogExact.{CatalogConditionsAreExact}
use Rattle.sem_lower_bounds.proofs.Exact.{HasRight, some-right}
use Rattle.sem_lower_bounds.proofs.Fitted.{catalog-needs-states}

few-refute-over : (width : ℕ → ℕ) (q : QueryValue) (e : Evaluator) → IsRight q e → HasFewStates e → ¬ NeedsStatesOver width q
few-refute-over width q e right few needs = needs (λ b all. (
    let o : HasFewFor e b = few b in
    let m : 2 ^ o.n ≤ o.most = all e (λ history r rows is. right history r) o.n o.most
    record { states = o.states.states; size = o.states.size; all = λ history rows l w. o.states.all history l w } in
    omega (arith, m, o.few)))

pub catalog-conditions-are-exact : CatalogConditionsAreExact
catalog-conditions-are-exact q within plain width over r violation = (from r violation, into r violation)
  where
    from : (r : Option Failure) → IsViolation q r → NeedsStatesOver width q → r ≢ None
    from None v n e = some-right q within plain.domains v (λ (h : HasRight q). few-refute-over width q h.0 h.1 h.2 n)
    from (Some f) v n e = cc

    into : (r : Option Failure) → IsViolation q r → r ≢ None → NeedsStatesOver width q
    into None v n = absurd (n refl)
    into (Some f) v n = catalog-needs-states q within plain f v width over
