use Rattle.std.proofs.Common.{◌≡◌, length, ap, ◌∙◌, arith, slice_index_or}
use Rattle.std.proofs.lemmas.List.{get_or_default}
use Rattle.sem_query.specs.declared.plan.PartPlan.{PartPlan}
use Rattle.plan_layout.specs.Boxed.{boxed}
use Rattle.plan_layout.specs.Listed.{no_part}
use Rattle.plan_layout.proofs.Standing.{streams_same, placed_next, part_done}
use Rattle.plan_layout.proofs.placing.place_part.Goals as goal

pub slot-requires-clause-here : goal.slot-requires-clause-here
slot-requires-clause-here c =
    let e : length (slice_index_or c.places.parts c.args.part no_part).streams.items ≡ length (slice_index_or c.args.parts.now c.args.part no_part).streams.items
    = streams_same c.args.q.now c.places.parts c.args.parts.now c.args.part c.places.invariant.same (omega arith) in
    let f = ap (λ (o : PartPlan). length o.streams.items) (get_or_default c.args.parts.now c.args.part c.index-parts-part.result no_part c.requires.known) in
    omega (arith, e, f, c.len-place-end.ensures.value)

pub set_slot-requires : goal.set_slot-requires
set_slot-requires c =
    let e : length (slice_index_or c.places.parts c.args.part c.index-parts-part-in-places.result).streams.items ≡ length (slice_index_or c.args.parts.now c.args.part no_part).streams.items
    = ap (λ (o : PartPlan). length o.streams.items) (get_or_default c.places.parts c.args.part c.index-parts-part-in-places.result no_part (omega arith))
    ∙ streams_same c.args.q.now c.places.parts c.args.parts.now c.args.part c.places.invariant.same (omega arith) in
    let f = ap (λ (o : PartPlan). length o.streams.items) (get_or_default c.args.parts.now c.args.part c.index-parts-part.result no_part c.requires.known) in
    omega (arith, e, f, c.len-place-end.ensures.value)

pub places-preserved : goal.places-preserved
places-preserved c =
    let e : length (slice_index_or c.places.parts c.args.part no_part).streams.items ≡ length (slice_index_or c.args.parts.now c.args.part no_part).streams.items
    = streams_same c.args.q.now c.places.parts c.args.parts.now c.args.part c.places.invariant.same (omega arith) in
    let f = ap (λ (o : PartPlan). length o.streams.items) (get_or_default c.args.parts.now c.args.part c.index-parts-part.result no_part c.requires.known) in
    placed_next c.args.q.now (boxed c.args.q.now 0 c.args.parts.now) c.places.parts c.places.boxes c.slot.new.self c.args.part c.places.place c.index-parts-part-in-places.result
    c.set_slot.new.part c.in_ok-slot.slot (omega arith) (omega (arith, e, f, c.len-place-end.ensures.value)) c.set_slot.ensures c.places.invariant
    c.in_ok-slot.ensures.listed c.in_ok-slot.ensures.boxes c.in_ok-slot.ensures.slot

pub returns : goal.returns
returns c =
    let e : length (slice_index_or c.places.parts c.args.part no_part).streams.items ≡ length (slice_index_or c.args.parts.now c.args.part no_part).streams.items
    = streams_same c.args.q.now c.places.parts c.args.parts.now c.args.part c.places.invariant.same (omega arith) in
    let f = ap (λ (o : PartPlan). length o.streams.items) (get_or_default c.args.parts.now c.args.part c.index-parts-part.result no_part c.requires.known) in
    part_done c.args.q.now (boxed c.args.q.now 0 c.args.parts.now) c.places.parts c.places.boxes c.args.part c.places.place (omega arith)
    (omega (arith, e, f, c.len-place-end.ensures.value)) c.places.invariant
