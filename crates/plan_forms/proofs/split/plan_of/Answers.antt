use Rattle.std.proofs.Common.{Bool, subst, sym}
use Rattle.plan_forms.specs.Planned.{IsPartsPlan}
use Rattle.plan_forms.proofs.Told.{split_told, shared_told}
use Rattle.plan_forms.proofs.split.plan_of.Goals as goal

pub returns-then-not-shared : goal.returns-then-not-shared
returns-then-not-shared c =
    subst (λ (b : Bool). IsPartsPlan b c.args.q.now c.numbered.result) (sym c.if-not-shared.true)
    (split_told c.args.q.now c.args.draft c.requires.compact c.requires.plain c.requires.form.0 c.requires.form.1 c.numbered.result c.numbered.ensures)

pub returns-in-Ok : goal.returns-in-Ok
returns-in-Ok c =
    subst (λ (b : Bool). IsPartsPlan b c.args.q.now c.numbered-in-Ok.result) (sym c.if-not-shared.false)
    (shared_told c.args.q.now c.args.draft c.requires.compact c.requires.plain c.requires.form.0 c.requires.form.1 c.in-Ok.draft c.in-Ok.ensures c.numbered-in-Ok.result c.numbered-in-Ok.ensures)
