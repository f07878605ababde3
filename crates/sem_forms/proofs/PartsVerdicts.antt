-- A query has one violation and one verdict by its parts, of either kind, and the plan of its parts serves and is one.
use Rattle.std.proofs.Common.{◌≡◌, ℕ, ◌<◌, ◌≤◌, nat_lt, Bool, true, false, List, map, length, Some, None, Option, refl, sym, ap, ◌∙◌, arith}
use Rattle.std.specs.Prelude.{IsFalse}
use Rattle.std.proofs.lemmas.List.{length-map}
use Rattle.std.proofs.lemmas.Bool.Decides.{nat_tests}
use Rattle.std.proofs.lemmas.Slice.Zip.{AllZip-long}
use Rattle.sem_query.specs.declared.plan.PartPlan.{PartPlan}
use Rattle.sem_query.specs.Query.{QueryValue, IsWithinLimits, is_filter}
use Rattle.sem_query.specs.Plan.{ArePartPlans}
use Rattle.sem_query.specs.Serving.{IsServing, AreBased}
use Rattle.sem_query.specs.Sharing.{IsPlanFor}
use Rattle.sem_query.specs.Verdict.{Verdict, verdict_by}
use Rattle.sem_query.specs.Verdict as verdicts
use Rattle.sem_query.specs.Violation.{Failure, IsViolation}
use Rattle.sem_query.proofs.Violation.{one_violation}
use Rattle.sem_laws.proofs.CountedParts.{parts_are_counted}
use Rattle.sem_laws.proofs.PlainServes.{plain_plans_serve}
use Rattle.sem_laws.proofs.Tests.{not_both}
use Rattle.sem_laws.proofs.Verdicts.{one-plan_for}
use Rattle.sem_forms.specs.Parts.{IsFormViolation, IsPartsFor, form_numbers, IsPartsVerdict, of_filter, of_many_parts, of_violation, of_plan}
use Rattle.sem_forms.specs.Parts as by_parts
use Rattle.sem_forms.specs.Laws.{PartsAreFew}
use Rattle.sem_forms.proofs.PartBreaks.{one_split_violation}
use Rattle.sem_forms.proofs.SplitOne.{split_parts_are_counted, one_split_plan}
use Rattle.sem_forms.proofs.SplitServes.{IsPlanOf, split_plans_serve}

pub plans_of : (shared : Bool) (q : QueryValue) (plan : List PartPlan) → IsPlanFor shared q plan → ArePartPlans q plan
plans_of false q plan is = record { parts = is.parts; plans = is.plans }
plans_of true q plan is = record { parts = is.parts; plans = is.plans }

plain_based : (shared : Bool) (q : QueryValue) (plan : List PartPlan) → IsPlanFor shared q plan → AreBased shared q plan
plain_based false q plan is = is.bases
plain_based true q plan is = is.bases

-- the violation of a query that is not compact
pub plain_violation : (q : QueryValue) (r : Option Failure) → IsFalse (is_filter q) → IsFalse q.compact → IsFormViolation q r → IsViolation q r
plain_violation q r plain c (by_parts.filter f e) = absurd (not_both (is_filter q) f plain)
plain_violation q r plain c (by_parts.plain f d v) = v
plain_violation q r plain c (by_parts.split f d v) = absurd (not_both q.compact d c)

-- the parts of a query that is no filter serve
pub parts_plans_serve : (shared : Bool) (q : QueryValue) (plan : List PartPlan) → IsWithinLimits q → IsFalse (is_filter q) → IsFormViolation q None → IsPartsFor shared q plan → IsServing q plan
parts_plans_serve shared q plan within plain none (by_parts.plain c is) = plain_plans_serve q plan within plain (plans_of shared q plan is) (plain_violation q None plain c none)
parts_plans_serve shared q plan within plain none (by_parts.split c is) = split_plans_serve q plan within is.0

-- and their boxes begin where they should
pub parts_based : (shared : Bool) (q : QueryValue) (plan : List PartPlan) → IsPartsFor shared q plan → AreBased shared q plan
parts_based shared q plan (by_parts.plain c is) = plain_based shared q plan is
parts_based shared q plan (by_parts.split c is) = is.1

-- where none breaks a condition the plan is one
pub one_parts_plan : (shared : Bool) (q : QueryValue) (plan other : List PartPlan) → IsFalse (is_filter q) → IsFormViolation q None → IsPartsFor shared q plan → IsPartsFor shared q other → plan ≡ other
one_parts_plan shared q plan other plain none (by_parts.plain c is) (by_parts.plain d also) = one-plan_for shared q plan other plain (plain_violation q None plain c none) is also
one_parts_plan shared q plan other plain none (by_parts.plain c is) (by_parts.split d also) = absurd (not_both q.compact d c)
one_parts_plan shared q plan other plain none (by_parts.split c is) (by_parts.plain d also) = absurd (not_both q.compact c d)
one_parts_plan shared q plan other plain none (by_parts.split c is) (by_parts.split d also) = one_split_plan shared q plan other is also

pub one_form_violation : (q : QueryValue) (r s : Option Failure) → IsFormViolation q r → IsFormViolation q s → r ≡ s
one_form_violation q r s (by_parts.filter f e) (by_parts.filter g d) = e ∙ sym d
one_form_violation q r s (by_parts.filter f e) (by_parts.plain g c v) = absurd (not_both (is_filter q) f g)
one_form_violation q r s (by_parts.filter f e) (by_parts.split g c v) = absurd (not_both (is_filter q) f g)
one_form_violation q r s (by_parts.plain f c v) (by_parts.filter g e) = absurd (not_both (is_filter q) g f)
one_form_violation q r s (by_parts.plain f c v) (by_parts.plain g d w) = one_violation q r s v w
one_form_violation q r s (by_parts.plain f c v) (by_parts.split g d w) = absurd (not_both q.compact d c)
one_form_violation q r s (by_parts.split f c v) (by_parts.filter g e) = absurd (not_both (is_filter q) g f)
one_form_violation q r s (by_parts.split f c v) (by_parts.plain g d w) = absurd (not_both q.compact c d)
one_form_violation q r s (by_parts.split f c v) (by_parts.split g d w) = one_split_violation q r s v w

some_is : (f g : Failure) → Some f ≡ Some g → f ≡ g
some_is f g e = cc

some_is_none : (f : Failure) → Some f ≡ None → ⊥
some_is_none f e = cc

pub one_parts_verdict : (shared : Bool) (q : QueryValue) (free : ℕ) (v w : Verdict) → IsPartsVerdict shared q free v → IsPartsVerdict shared q free w → v ≡ w
one_parts_verdict shared q free v w (of_filter f e) (of_filter g d) = e ∙ sym d
one_parts_verdict shared q free v w (of_filter f e) (of_many_parts g m d) = absurd (not_both (is_filter q) f g)
one_parts_verdict shared q free v w (of_filter f e) (of_violation g m x i d) = absurd (not_both (is_filter q) f g)
one_parts_verdict shared q free v w (of_filter f e) (of_plan g m i p j d) = absurd (not_both (is_filter q) f g)
one_parts_verdict shared q free v w (of_many_parts f m e) (of_filter g d) = absurd (not_both (is_filter q) g f)
one_parts_verdict shared q free v w (of_many_parts f m e) (of_many_parts g n d) = e ∙ sym d
one_parts_verdict shared q free v w (of_many_parts f m e) (of_violation g n x i d) = absurd (n m)
one_parts_verdict shared q free v w (of_many_parts f m e) (of_plan g n i p j d) = absurd (n m)
one_parts_verdict shared q free v w (of_violation f m x i e) (of_filter g d) = absurd (not_both (is_filter q) g f)
one_parts_verdict shared q free v w (of_violation f m x i e) (of_many_parts g n d) = absurd (m n)
one_parts_verdict shared q free v w (of_violation f m x i e) (of_violation g n y j d) =
    e ∙ ap (λ z. verdicts.violation z) (some_is x y (one_form_violation q (Some x) (Some y) i j)) ∙ sym d
one_parts_verdict shared q free v w (of_violation f m x i e) (of_plan g n j p k d) = absurd (some_is_none x (one_form_violation q (Some x) None i j))
one_parts_verdict shared q free v w (of_plan f m i p j e) (of_filter g d) = absurd (not_both (is_filter q) g f)
one_parts_verdict shared q free v w (of_plan f m i p j e) (of_many_parts g n d) = absurd (m n)
one_parts_verdict shared q free v w (of_plan f m i p j e) (of_violation g n x k d) = absurd (some_is_none x (one_form_violation q (Some x) None k i))
one_parts_verdict shared q free v w (of_plan f m i p j e) (of_plan g n k o l d) =
    e ∙ ap (λ ps. verdict_by (form_numbers shared q ps) free) (one_parts_plan shared q p o f i j l) ∙ sym d

at_most : (n m : ℕ) → (m < n → ⊥) → n ≤ m
at_most n m f = by (nat_lt m n) refl
  where
    by : (b : Bool) → nat_lt m n ≡ b → n ≤ m
    by true l = absurd (f (grind (arith, nat_tests, l)))
    by false l = grind (arith, nat_tests, l)

pub parts_are_few : PartsAreFew
parts_are_few shared q plan few (by_parts.plain c is) =
    at_most (length plan) 4096 (λ l. (let e = length-map plan (λ (p : PartPlan). p.signs.items) in
    few (by_parts.plain c ((parts_are_counted q (map (λ (p : PartPlan). p.signs.items) plan) 4096 (plans_of shared q plan is).parts).1 (omega (arith, l, e))))))
parts_are_few shared q plan few (by_parts.split c is) =
    at_most (length plan) 4096 (λ l. (let e = AllZip-long (IsPlanOf q) is.0.parts plan is.0.plans in
    few (by_parts.split c ((split_parts_are_counted q is.0.parts 4096 is.0.are).1 (omega (arith, l, e))))))
