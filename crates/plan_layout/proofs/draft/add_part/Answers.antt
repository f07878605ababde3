use Rattle.std.proofs.Common.{sym, subst, List, None}
use Rattle.std.specs.Prelude.{OnOk}
use Rattle.sem_query.specs.declared.part.Sign.{Sign}
use Rattle.sem_query.specs.Parts.{IsPart}
use Rattle.sem_query.specs.FirstBreak.{IsFirstBreak}
use Rattle.plan_layout.specs.declared.draft.PlanDraft.{PlanDraft}
use Rattle.plan_layout.specs.Sums.{AreSizesOf, AreDrafted}
use Rattle.plan_layout.proofs.Adding.{added}
use Rattle.plan_layout.proofs.draft.add_part.Goals.{in-Ok, in-Err}
use Rattle.plan_layout.proofs.draft.add_part.Goals as goal

pub returns-clause-drafted : goal.returns-clause-drafted
returns-clause-drafted c =
    let e = sym c.part_plan-part.ensures.signs in
    let more : PlanDraft = record { parts = c.push.new.self; cells = c.part_plan-part.result.1; answers = c.saturating_add-draft.result; work = c.saturating_add-draft-2.result } in
    elim c.match-push.branch [
      | in-Ok w ↦
          subst (λ r. OnOk r (AreDrafted c.args.q.now more)) (sym w.result-is)
          (added c.args.q.now c.requires.limits c.args.draft.now more
          c.part_plan-part.result.0 c.args.columns.now c.tuples_in-answers.result c.share.result
          c.requires.drafted
          (subst (λ (z : List Sign). IsPart c.args.q.now z) e c.requires.part)
          (subst (λ (z : List Sign). IsFirstBreak c.args.q.now z None) e c.requires.fine)
          c.requires.columns c.part_plan-part.ensures.draft w.in-Ok.ensures.items c.part_plan-part.ensures.cells c.part_plan-part.ensures.boxes
          (subst (λ (z : List Sign). AreSizesOf c.args.q.now z c.args.columns.now c.tuples_in-answers.result) e c.tuples_in-answers.ensures)
          c.saturating_add-draft.ensures c.share.ensures c.saturating_add-draft-2.ensures)
      | in-Err w ↦ subst (λ r. OnOk r (AreDrafted c.args.q.now more)) (sym w.result-is) tt
    ]
