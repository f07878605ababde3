use Rattle.std.proofs.Common.{subst, sym, ◌≤◌, length}
use Rattle.plan_forms.specs.Planned.{IsRefusedByParts}
use Rattle.plan_forms.proofs.Told.{few_split, split_fault}
use Rattle.plan_forms.proofs.split.drafts_of.Goals as goal

pub returns-in-Ok : goal.returns-in-Ok
returns-in-Ok c = (
  c.in-Ok.ensures,
  few_split c.args.q.now c.args.fronts.now c.requires.compact (subst (λ l. length l ≤ 114) c.requires.pairs c.requires.few_pairs) c.requires.parts c.requires.few,
)

pub returns-in-Err : goal.returns-in-Err
returns-in-Err c =
    subst (IsRefusedByParts c.args.q.now) (sym c.refusal_of.ensures)
    (split_fault c.args.q.now c.in-Err.why c.requires.compact c.requires.plain
    (few_split c.args.q.now c.args.fronts.now c.requires.compact (subst (λ l. length l ≤ 114) c.requires.pairs c.requires.few_pairs) c.requires.parts c.requires.few)
    c.in-Err.ensures)
