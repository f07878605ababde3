use Rattle.std.proofs.Common.{subst, sym}
use Rattle.plan_forms.specs.Planned.{IsRefusedByParts}
use Rattle.plan_forms.proofs.Told.{few_plain, plain_drafted, plain_fault}
use Rattle.plan_forms.proofs.plain.plans_of.Goals as goal

pub returns-in-Ok-clause-plans : goal.returns-in-Ok-clause-plans
returns-in-Ok-clause-plans c =
    plain_drafted c.args.q.now c.requires.compact c.requires.plain (few_plain c.args.q.now c.args.parts.now c.requires.compact c.requires.parts c.requires.few)
    c.in-Ok.plans.items c.in-Ok.ensures.plans c.in-Ok.ensures.few c.in-Ok.ensures.meets

pub returns-in-Err-clause-refused : goal.returns-in-Err-clause-refused
returns-in-Err-clause-refused c =
    subst (IsRefusedByParts c.args.q.now) (sym c.refusal_of.ensures)
    (plain_fault c.args.q.now c.requires.compact c.requires.plain (few_plain c.args.q.now c.args.parts.now c.requires.compact c.requires.parts c.requires.few) c.in-Err.why c.in-Err.ensures.fault)
