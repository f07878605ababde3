-- There is one verdict on a query.
use Rattle.std.proofs.Common.{◌≡◌, Bool, true, false, List, sym, ap, ◌∙◌, Some, None}
use Rattle.std.specs.Prelude.{IsFalse}
use Rattle.sem_query.specs.Query.{QueryValue, is_filter}
use Rattle.sem_query.specs.Violation.{Failure, IsViolation}
use Rattle.sem_query.specs.declared.plan.PartPlan.{PartPlan}
use Rattle.sem_query.specs.Verdict.{violation, verdict_by, of_filter, of_many_parts, of_violation, of_plan}
use Rattle.sem_query.specs.Sharing.{IsPlanFor, numbers_for}
use Rattle.sem_query.proofs.Violation.{one_violation}
use Rattle.sem_laws.specs.Plans.{HasOneVerdict}
use Rattle.sem_laws.proofs.Tests.{not_both}
use Rattle.sem_laws.proofs.OnePlan.{one-plan}
use Rattle.sem_laws.proofs.OneSharedPlan.{one-shared-plan}

some_is : (f g : Failure) → Some f ≡ Some g → f ≡ g
some_is f g e = cc

some_is_none : (f : Failure) → Some f ≡ None → ⊥
some_is_none f e = cc

-- without shared cells or with them, a query of which no condition is violated has one plan
pub one-plan_for : (shared : Bool) (q : QueryValue) (plan other : List PartPlan) → IsFalse (is_filter q) → IsViolation q None
    → IsPlanFor shared q plan → IsPlanFor shared q other → plan ≡ other
one-plan_for false q plan other f i a b = one-plan q plan other f i a b
one-plan_for true q plan other f i a b = one-shared-plan q plan other f i a b

pub has-one-verdict : HasOneVerdict
has-one-verdict shared q free v w (of_filter f e) (of_filter g d) = e ∙ sym d
has-one-verdict shared q free v w (of_filter f e) (of_many_parts g m d) = absurd (not_both (is_filter q) f g)
has-one-verdict shared q free v w (of_filter f e) (of_violation g m x i d) = absurd (not_both (is_filter q) f g)
has-one-verdict shared q free v w (of_filter f e) (of_plan g m i p j d) = absurd (not_both (is_filter q) f g)
has-one-verdict shared q free v w (of_many_parts f m e) (of_filter g d) = absurd (not_both (is_filter q) g f)
has-one-verdict shared q free v w (of_many_parts f m e) (of_many_parts g n d) = e ∙ sym d
has-one-verdict shared q free v w (of_many_parts f m e) (of_violation g n x i d) = absurd (n m)
has-one-verdict shared q free v w (of_many_parts f m e) (of_plan g n i p j d) = absurd (n m)
has-one-verdict shared q free v w (of_violation f m x i e) (of_filter g d) = absurd (not_both (is_filter q) g f)
has-one-verdict shared q free v w (of_violation f m x i e) (of_many_parts g n d) = absurd (m n)
has-one-verdict shared q free v w (of_violation f m x i e) (of_violation g n y j d) =
    e ∙ ap (λ z. violation z) (some_is x y (one_violation q (Some x) (Some y) i j)) ∙ sym d
has-one-verdict shared q free v w (of_violation f m x i e) (of_plan g n j p k d) =
    absurd (some_is_none x (one_violation q (Some x) None i j))
has-one-verdict shared q free v w (of_plan f m i p j e) (of_filter g d) = absurd (not_both (is_filter q) g f)
has-one-verdict shared q free v w (of_plan f m i p j e) (of_many_parts g n d) = absurd (m n)
has-one-verdict shared q free v w (of_plan f m i p j e) (of_violation g n x k d) =
    absurd (some_is_none x (one_violation q (Some x) None k i))
has-one-verdict shared q free v w (of_plan f m i p j e) (of_plan g n k r l d) =
    e ∙ ap (λ ps. verdict_by (numbers_for shared q ps) free) (one-plan_for shared q p r f i j l) ∙ sym d
