use Rattle.std.proofs.Common.{[], ◌∷◌, sym, subst}
use Rattle.std.specs.Prelude.{OnOk}
use Rattle.plan_layout.specs.declared.draft.PlanDraft.{PlanDraft}
use Rattle.sem_query.specs.Numbers.{answer_bound}
use Rattle.plan_forms.specs.Hulls.{AreHulls}
use Rattle.plan_forms.specs.Drafts.{AreSummed, IsAdded}
use Rattle.plan_forms.proofs.MadePlans.{made_answers, made_selected, made_work, summed}
use Rattle.plan_forms.proofs.HullLaws.{hulls_joined}
use Rattle.plan_forms.proofs.drafting.add_part.Goals.{in-Ok, in-Err}
use Rattle.plan_forms.proofs.drafting.add_part.Goals as goal

pub returns-clause-summed : goal.returns-clause-summed
returns-clause-summed c =
    let q = c.args.q.now in
    let ss = c.args.front.now.signs.items in
    let plan = c.part_plan-plan.result.0 in
    let more : PlanDraft = record { parts = c.push.new.self; cells = c.part_plan-plan.result.1; answers = c.saturating_add-draft.result; work = c.saturating_add-draft-2.result } in
    elim c.match-push.branch [
      | in-Ok w ↦
          subst (λ r. OnOk r (AreSummed q (answer_bound q) more)) (sym w.result-is)
          (summed q c.args.draft.now more plan c.args.made.numbers.answers c.args.made.numbers.work c.requires.summed w.in-Ok.ensures.items c.part_plan-plan.ensures.cells c.part_plan-plan.ensures.boxes
          (made_answers q ss c.args.made c.requires.made plan c.part_plan-plan.ensures.draft c.part_plan-plan.ensures.signs) c.saturating_add-draft.ensures
          (made_work q ss c.args.made c.requires.made plan c.part_plan-plan.ensures.draft c.part_plan-plan.ensures.signs) c.saturating_add-draft-2.ensures)
      | in-Err w ↦ subst (λ r. OnOk r (AreSummed q (answer_bound q) more)) (sym w.result-is) tt
    ]

pub returns-clause-added : goal.returns-clause-added
returns-clause-added c =
    let q = c.args.q.now in
    let ss = c.args.front.now.signs.items in
    let more : PlanDraft = record { parts = c.push.new.self; cells = c.part_plan-plan.result.1; answers = c.saturating_add-draft.result; work = c.saturating_add-draft-2.result } in
    elim c.match-push.branch [
      | in-Ok w ↦
          subst (λ r. OnOk r (IsAdded q ss c.args.draft.now more)) (sym w.result-is)
          record { part = c.part_plan-plan.result.0; joined = w.in-Ok.ensures.items; draft = c.part_plan-plan.ensures.draft }
      | in-Err w ↦ subst (λ r. OnOk r (IsAdded q ss c.args.draft.now more)) (sym w.result-is) tt
    ]

pub returns-clause-hulls : goal.returns-clause-hulls
returns-clause-hulls c =
    let q = c.args.q.now in
    let ss = c.args.front.now.signs.items in
    let plan = c.part_plan-plan.result.0 in
    elim c.match-push.branch [
      | in-Ok w ↦
          subst (λ r. OnOk r (AreHulls q c.push.new.self.items c.joined.result.items)) (sym w.result-is)
          (subst (λ ps. AreHulls q ps c.joined.result.items) (sym w.in-Ok.ensures.items)
          (hulls_joined q c.args.draft.now.parts.items plan c.as_slice.result.now c.as_slice-2.result.now c.joined.result.items
          (subst (AreHulls q c.args.draft.now.parts.items) (sym c.as_slice.ensures.value) c.requires.hulls)
          (subst (AreHulls q (plan ∷ [])) (sym c.as_slice-2.ensures.value) (made_selected q ss c.args.made c.requires.made plan c.part_plan-plan.ensures.draft c.part_plan-plan.ensures.signs))
          c.joined.ensures))
      | in-Err w ↦ subst (λ r. OnOk r (AreHulls q c.push.new.self.items c.joined.result.items)) (sym w.result-is) tt
    ]
