use Rattle.std.proofs.Common.{◌≡◌, ◌<◌, ◌+◌, ◌∙◌, ◌||◌, Bool, map, drop, length, sym, ap, arith, Some, slice_get}
use Rattle.std.specs.List.{list_any}
use Rattle.std.proofs.lemmas.Option.{slice_get-get_or}
use Rattle.sem_query.specs.declared.plan.PartPlan.{PartPlan}
use Rattle.sem_query.specs.Ranges.{range_of}
use Rattle.exec_restore.specs.Loadable.{are_inside}
use Rattle.exec_restore.proofs.ListedTuples.{any-step}
use Rattle.exec_restore.proofs.loading.lie_somewhere.Goals as goal

pub lie_inside-requires : goal.lie_inside-requires
lie_inside-requires c =
    let l : c.parts.k < length c.args.parts.now = omega (arith, c.parts-test.true, c.len-k-end.ensures) in
    let at : slice_get c.args.parts.now c.parts.k ≡ Some c.get-part.result.now
    = slice_get-get_or c.args.parts.now c.parts.k c.get-part.result.now l ∙ ap (λ (p : PartPlan). Some p) (sym (c.get-part.ensures c.get-part.result.now)) in
    c.part.ensures c.get-part.result.now at

pub returns-then-lie_inside : goal.returns-then-lie_inside
returns-then-lie_inside c =
    let l : c.parts.k < length c.args.parts.now = omega (arith, c.parts-test.true, c.len-k-end.ensures) in
    let inside : PartPlan → Bool = λ part. are_inside (map (range_of c.args.q.now part) c.args.columns.now) c.args.values.now in
    sym (c.parts.invariant ∙ any-step inside c.args.parts.now c.parts.k c.get-part.result.now l (c.get-part.ensures c.get-part.result.now)
    ∙ ap (λ b. b || list_any inside (drop (c.parts.k + 1) c.args.parts.now)) (sym c.lie_inside.ensures ∙ c.if-lie_inside.true))

pub parts-preserved : goal.parts-preserved
parts-preserved c =
    let l : c.parts.k < length c.args.parts.now = omega (arith, c.parts-test.true, c.len-k-end.ensures) in
    let inside : PartPlan → Bool = λ part. are_inside (map (range_of c.args.q.now part) c.args.columns.now) c.args.values.now in
    c.parts.invariant ∙ any-step inside c.args.parts.now c.parts.k c.get-part.result.now l (c.get-part.ensures c.get-part.result.now)
    ∙ ap (λ b. b || list_any inside (drop (c.parts.k + 1) c.args.parts.now)) (sym c.lie_inside.ensures ∙ c.if-lie_inside.false)
