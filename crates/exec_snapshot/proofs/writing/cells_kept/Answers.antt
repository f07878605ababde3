use Rattle.std.proofs.Common.{sym, ap, ◌∙◌, subst}
use Rattle.sem_query.specs.declared.plan.Plan.{Plan}
use Rattle.sem_query.specs.Numbers.{parts_of}
use Rattle.sem_query.specs.Sharing.{kept_boxes, sizes_in}
use Rattle.sem_forms.specs.Forms.{IsFormPlanOf}
use Rattle.exec_snapshot.proofs.KeptCells.{cells_announced}
use Rattle.exec_snapshot.proofs.writing.cells_kept.Goals as goal

pub returns-in-Parts : goal.returns-in-Parts
returns-in-Parts c =
    let e = c.args.kept.now in
    let plan = sym c.plan.ensures.value ∙ c.in-Parts.is in
    let its = subst (IsFormPlanOf e.shared e.query) plan c.plan.ensures.sound.accepted.plan in
    cells_announced e.shared e.query c.in-Parts.parts c.in-Parts.numbers its.2
    ∙ ap (λ (p : Plan). sizes_in (kept_boxes e.shared e.query (parts_of p))) (sym plan)
