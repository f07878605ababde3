use Rattle.std.proofs.Common.{◌≡◌, ◌<◌, ◌+◌, ◌∙◌, List, drop, length, sym, ap, arith, Some, None}
use Rattle.std.specs.List.{flat_map}
use Rattle.sem_query.specs.declared.plan.PartPlan.{PartPlan}
use Rattle.sem_query.specs.declared.plan.StreamPlan.{StreamPlan}
use Rattle.exec_restore.specs.Loadable.{kind_in}
use Rattle.exec_restore.proofs.CellKinds.{kind-front, kind-behind, streams-from}
use Rattle.exec_restore.proofs.loading.kind_among.Goals as goal

pub returns-in-Some : goal.returns-in-Some
returns-in-Some c =
    let l : c.parts.k < length c.args.parts.now = omega (arith, c.parts-test.true, c.len-k-end.ensures) in
    let rest = flat_map (λ (p : PartPlan). p.streams.items) (drop (c.parts.k + 1) c.args.parts.now) in
    let own : kind_in c.get.result.now.streams.items c.args.i ≡ Some c.in-Some.kind
    = ap (λ (ss : List StreamPlan). kind_in ss c.args.i) (sym c.as_slice.ensures.value) ∙ sym c.kind_in.ensures ∙ c.in-Some.is in
    sym (c.parts.invariant ∙ ap (λ (ss : List StreamPlan). kind_in ss c.args.i) (streams-from c.args.parts.now c.parts.k c.get.result.now l (c.get.ensures c.get.result.now))
    ∙ kind-front c.get.result.now.streams.items rest c.args.i c.in-Some.kind own)

pub parts-preserved : goal.parts-preserved
parts-preserved c =
    let l : c.parts.k < length c.args.parts.now = omega (arith, c.parts-test.true, c.len-k-end.ensures) in
    let rest = flat_map (λ (p : PartPlan). p.streams.items) (drop (c.parts.k + 1) c.args.parts.now) in
    let own : kind_in c.get.result.now.streams.items c.args.i ≡ None
    = ap (λ (ss : List StreamPlan). kind_in ss c.args.i) (sym c.as_slice.ensures.value) ∙ sym c.kind_in.ensures ∙ c.in-None.is in
    c.parts.invariant ∙ ap (λ (ss : List StreamPlan). kind_in ss c.args.i) (streams-from c.args.parts.now c.parts.k c.get.result.now l (c.get.ensures c.get.result.now))
    ∙ kind-behind c.get.result.now.streams.items rest c.args.i own
