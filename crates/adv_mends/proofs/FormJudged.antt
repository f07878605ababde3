-- What a query comes to by the plan of its form.
use Rattle.std.proofs.Common.{inl, inr, Bool, IsFalse, Ok}
use Rattle.sem_query.specs.declared.plan.Plan.{Plan}
use Rattle.sem_query.specs.declared.plan.Plan.TheVariants as plans
use Rattle.sem_query.specs.Query.{QueryValue, is_filter}
use Rattle.sem_forms.specs.Forms as forms
use Rattle.plan_forms.specs.Planned.{IsFormAnswer}
use Rattle.adv_mends.specs.declared.judging.Judgement.{Judgement}
use Rattle.adv_mends.specs.declared.judging.Judgement.TheVariants as judgement
use Rattle.adv_mends.specs.Numbered.{IsJudgement}

abbrev pub judgement_of : Plan → Judgement
judgement_of plans.Filter = judgement.Filter
judgement_of (plans.Parts list numbers) = judgement.Accepted numbers

pub judged : (shared : Bool) (q : QueryValue) (p : Plan) → IsFalse (is_filter q) → IsFormAnswer shared q (Ok p) → IsJudgement shared q (judgement_of p)
judged shared q plans.Filter plain (inl h) = h.1 shared
judged shared q plans.Filter plain (inr h) = absurd h.1
judged shared q (plans.Parts list numbers) plain (inl h) =
    let is = h.1 shared in
    (plain, λ f none. absurd (none h.0), record { parts = list; plan = is.1; are = is.2; within = h.2 })
judged shared q (plans.Parts list numbers) plain (inr h) = (plain, λ f none. (h.1.meets.few, h.1.meets.none), record { parts = list; plan = forms.parts h.0 h.1.plan; are = h.1.are; within = h.1.within })
