use Rattle.std.proofs.Common.{◌≡◌, ◌∙◌, ◌+◌, ◌<◌, sym, ap, length, get_or, arith, subst, ◌++◌, ◌∷◌, [], pos, List}
use Rattle.sem_query.specs.Plan.{dims_at}
use Rattle.sem_query.specs.declared.atom.Element.{Element}
use Rattle.sem_query.specs.declared.atom.Op.{Op}
use Rattle.sem_query.specs.declared.plan.LocalCondition.{LocalCondition}
use Rattle.exec_synopsis.proofs.PrepareLaws.{asked-all, asked-push, asked-skip, SoAsked}
use Rattle.exec_synopsis.proofs.prepared.asked_of.Goals as goal
use Rattle.exec_synopsis.proofs.prepared.asked_of.Goals.{then-not-is_told+in_ok-push, else-not-is_told}

abbrev none : LocalCondition
none = record { left = record { stream = 0; column = 0 }; op = Op.Lt; right = Element.Attr (record { stream = 0; column = 0 }); by = pos 0 }

pub conditions-preserved : goal.conditions-preserved
conditions-preserved c =
    let there : c.conditions.condition-index < length c.args.part.now.local = (let v = ap length c.as_slice-local.ensures in omega (arith, v, c.conditions-test.true)) in
    let is : get_or c.as_slice-local.result.now c.conditions.condition-index none ≡ get_or c.args.part.now.local c.conditions.condition-index none
    = ap (λ (ts : List LocalCondition). get_or ts c.conditions.condition-index none) c.as_slice-local.ensures in
    elim c.if-not-is_told.branch [
      | then-not-is_told+in_ok-push w ↦
          asked-push c.args.part.now c.conditions.asked.items c.conditions.condition-index c.conditions.invariant _ none there is c.if-not-is_told.asked.items
          (ap (λ t. t.items) w.asked-is ∙ w.in_ok-push.ensures.items)
      | else-not-is_told w ↦
          subst (λ ts. SoAsked c.args.part.now ts (c.conditions.condition-index + 1)) (sym (ap (λ t. t.items) w.asked-is))
          (asked-skip c.args.part.now c.conditions.asked.items c.conditions.condition-index c.conditions.invariant _ none there is
          c.dims_at.result.now (c.dims_at.ensures.value ∙ ap (dims_at c.args.part.now) c.from.ensures) (c.is_told.ensures w.if-not-is_told.false))
    ]

pub returns : goal.returns
returns c =
    asked-all c.args.part.now c.conditions.asked.items c.conditions.condition-index c.conditions.invariant
    (let v = ap length c.as_slice-local.ensures in omega (arith, v, c.conditions-test.false))
