-- Verdicts, told by the form of their plan.
use Rattle.std.proofs.Common.{◌≡◌, ◌≤◌, inl, inr, Bool, false, IsTrue, IsFalse, Some, Ok, length, ap, arith}
use Rattle.sem_query.specs.declared.plan.Plan.{Plan}
use Rattle.sem_query.specs.declared.plan.Plan.TheVariants as plans
use Rattle.sem_query.specs.Query.{QueryValue, is_filter}
use Rattle.sem_query.specs.Numbers.{parts_of}
use Rattle.sem_forms.specs.Forms as forms
use Rattle.sem_forms.specs.Forms.{HasWholeForm, IsFormPlan, IsFormPlanOf, IsWholeFormOr}
use Rattle.plan_forms.specs.Planned.{IsPartsPlan, IsFormAnswer}
use Rattle.exec_query.specs.Executor.{IsAccepted}

-- a query is a filter or none
pub both : {b : Bool} → IsTrue b → IsFalse b → ⊥
both {b} t f = cc

pub true_or_false : {b : Bool} → IsTrue b → b ≡ false → ⊥
true_or_false {b} t f = cc

-- a query whose whole form does not fit is accepted with the plan of its parts
parts_accepted : (shared : Bool) (q : QueryValue) (p : Plan) → IsFalse (is_filter q) → ¬ HasWholeForm q → IsPartsPlan shared q (Ok p) → IsAccepted shared q p
parts_accepted shared q plans.Filter plain none h = absurd h
parts_accepted shared q (plans.Parts list numbers) plain none h = record {
  plan = (plain, forms.parts none h.plan, h.are);
  met = λ f n. (h.meets.few, h.meets.none);
  within = h.within;
  few = h.count;
}

-- the plan of a query whose whole form fits is one part
one_planned : (shared : Bool) (q : QueryValue) (p : Plan) → HasWholeForm q → IsFormPlanOf shared q p → length (parts_of p) ≤ 1
one_planned shared q plans.Filter has is = omega arith
one_planned shared q (plans.Parts list numbers) has is = by is.1
  where
    by : IsFormPlan shared q list → length list ≤ 1
    by (forms.whole compact part fits follow e) = (let one = ap length e in omega (arith, one))
    by (forms.parts none p) = absurd (none has)

-- so it is accepted
whole_accepted : (shared : Bool) (q : QueryValue) (p : Plan) → IsWholeFormOr q (Some p) → IsAccepted shared q p
whole_accepted shared q p h =
    let one = one_planned shared q p h.0 (h.1 shared) in
    record { plan = h.1 shared; met = λ plain none. absurd (none h.0); within = h.2; few = omega (arith, one) }

-- in each form
pub form_accepted : (shared : Bool) (q : QueryValue) (p : Plan) → IsFalse (is_filter q) → IsFormAnswer shared q (Ok p) → IsAccepted shared q p
form_accepted shared q p plain (inl h) = whole_accepted shared q p h
form_accepted shared q p plain (inr h) = parts_accepted shared q p plain h.0 h.1
