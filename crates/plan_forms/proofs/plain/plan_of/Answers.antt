use Rattle.std.proofs.Common.{subst, sym, Err}
use Rattle.plan_forms.specs.declared.error.PartsRefusal.{PartsRefusal}
use Rattle.plan_forms.specs.Planned.{IsPartsPlan}
use Rattle.plan_forms.proofs.Told.{few_plain, plain_told, plain_refused}
use Rattle.plan_forms.proofs.plain.plan_of.Goals as goal

pub returns-in-Ok : goal.returns-in-Ok
returns-in-Ok c =
    plain_told c.args.q.now c.requires.compact c.requires.plain (few_plain c.args.q.now c.args.parts.now c.requires.compact c.requires.parts c.requires.few) c.args.shared c.in-Ok.plan c.in-Ok.ensures

pub returns-in-Err : goal.returns-in-Err
returns-in-Err c =
    subst (λ (z : PartsRefusal). IsPartsPlan c.args.shared c.args.q.now (Err z)) (sym c.refusal_of.ensures)
    (plain_refused c.args.q.now c.requires.compact c.requires.plain (few_plain c.args.q.now c.args.parts.now c.requires.compact c.requires.parts c.requires.few) c.args.shared c.in-Err.why c.in-Err.ensures)
