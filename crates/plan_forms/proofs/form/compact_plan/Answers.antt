use Rattle.std.proofs.Common.{Some, inl, subst, sym}
use Rattle.sem_query.specs.declared.plan.Plan.{Plan}
use Rattle.sem_forms.specs.Forms.{IsWholeFormOr}
use Rattle.plan_forms.specs.Fitting.{IsChosen}
use Rattle.plan_forms.proofs.form.compact_plan.Goals as goal

pub returns-in-Ok : goal.returns-in-Ok
returns-in-Ok c =
    let h = subst (IsChosen c.args.q.now) c.in-Ok-Whole.field-0-is c.in-Ok-Whole.ensures in
    inl (subst (λ (p : Plan). IsWholeFormOr c.args.q.now (Some p)) (sym c.in-Ok.ensures) h)
