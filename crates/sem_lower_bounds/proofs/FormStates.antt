-- Accepted means few states, whichever form a query has.
use Rattle.std.proofs.Common.{[], false, refl, arith, ◌≤◌, ◌^◌}
use Rattle.sem_query.specs.declared.plan.Plan.TheVariants as plan
use Rattle.sem_query.specs.Meaning.{Arrival}
use Rattle.sem_query.specs.Query.{QueryValue}
use Rattle.sem_laws.specs.Sufficiency.{nothing, anywhere}
use Rattle.sem_forms.specs.Forms.{IsServingForm}
use Rattle.sem_forms.proofs.Forms.{form_plans_serve}
use Rattle.sem_lower_bounds.specs.Forms.{FormsHaveFewStates, FormsNeedFewStates}
use Rattle.sem_lower_bounds.specs.Served.{HasFewForOn, HasFewStatesOn}
use Rattle.sem_lower_bounds.specs.States.{Evaluator}
use Rattle.sem_lower_bounds.specs.Within.{IsRightOn, NeedsStatesOn}
use Rattle.sem_lower_bounds.proofs.FewStates.{serving-has-few-states}

pub forms-have-few-states : FormsHaveFewStates
forms-have-few-states q plan.Filter within meets is = serving-has-few-states q [] within (nothing is refl) tt
forms-have-few-states q (plan.Parts list numbers) within meets is =
    let s : IsServingForm false q (plan.Parts list numbers) = form_plans_serve false q (plan.Parts list numbers) within meets is in
    serving-has-few-states q list within (anywhere s.0 s.1) s.2

-- an evaluator of few states refutes that many are needed
few-refute-on : (kind : Arrival → Type 0) (q : QueryValue) (e : Evaluator) → IsRightOn kind q e → HasFewStatesOn kind e → ¬ NeedsStatesOn kind q
few-refute-on kind q e right few needs = needs (λ b all. (
    let o : HasFewForOn kind e b = few b in
    let m : 2 ^ o.n ≤ o.most = all e right o.n o.most o.states in
    omega (arith, m, o.few)))

pub forms-need-few-states : FormsNeedFewStates
forms-need-few-states q plan within meets is =
    let o = forms-have-few-states q plan within meets is in
    few-refute-on _ q o.0 o.1 o.2
