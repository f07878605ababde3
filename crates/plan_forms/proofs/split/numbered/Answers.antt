use Rattle.std.proofs.Common.{subst, sym, Err}
use Rattle.plan_forms.specs.declared.error.PartsRefusal.{PartsRefusal}
use Rattle.plan_forms.specs.Planned.{IsNumberedSplit}
use Rattle.plan_forms.proofs.Told.{numbered_plan, numbered_fault}
use Rattle.plan_forms.proofs.split.numbered.Goals as goal

pub returns-in-Ok : goal.returns-in-Ok
returns-in-Ok c = numbered_plan c.args.draft c.in-Ok.plan c.in-Ok.ensures

pub returns-in-Err : goal.returns-in-Err
returns-in-Err c = subst (λ (z : PartsRefusal). IsNumberedSplit c.args.draft (Err z)) (sym c.refusal_of.ensures) (numbered_fault c.args.draft c.in-Err.why c.in-Err.ensures)
