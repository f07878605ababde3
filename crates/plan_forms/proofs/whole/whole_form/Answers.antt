use Rattle.std.proofs.Common.{Some, subst, sym}
use Rattle.sem_query.specs.declared.plan.Plan.{Plan}
use Rattle.sem_forms.specs.Forms.{IsWholeFormOr}
use Rattle.plan_forms.specs.Fitting.{IsChosen}
use Rattle.plan_forms.proofs.whole.whole_form.Goals as goal

pub returns-in_ok-planned-in-Whole : goal.returns-in_ok-planned-in-Whole
returns-in_ok-planned-in-Whole c =
    subst (λ (p : Plan). IsWholeFormOr c.args.q.now (Some p)) (sym c.in_ok-planned-in-Whole.ensures) (subst (IsChosen c.args.q.now) c.in-Whole.is c.in_ok-whole.ensures)
