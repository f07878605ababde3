use Rattle.std.proofs.Common.{◌∙◌, ap, List, ℤ, Some, subst, sym}
use Rattle.std.proofs.lemmas.Option.{slice_get-get_or, get_or_from_slice_get}
use Rattle.sem_query.specs.declared.plan.PartPlan.{PartPlan}
use Rattle.exec_part_index.specs.SimpleBox.{IsInBox}
use Rattle.exec_part_index.proofs.Placing.{met, outside_box, unmet, unasked_there}
use Rattle.exec_part_index.proofs.part_index.Led.placement_of.Goals as goal
use Rattle.exec_part_index.proofs.part_index.Led.placement_of.Goals.{in-Some-listed_placement, in-None}

pub returns-in-Some : goal.returns-in-Some
returns-in-Some c = λ part at_i.
    let o = c.args.self.now in
    let there = subst (λ p. IsInBox p o.pos o.row.now.items c.in-Some.placement) (c.get-part.ensures c.get-part.result.now ∙ get_or_from_slice_get o.parts.now c.args.i part c.get-part.result.now at_i)
    (subst (λ (xs : List ℤ). IsInBox c.get-part.result.now o.pos xs c.in-Some.placement) c.as_slice-row.ensures.value c.in-Some.ensures) in
    unasked_there o.q.now o.parts.now o.pos c.args.self.now.part_index.now c.requires.part_index o.row.now.items c.args.i part at_i c.entry-entry.result.now c.entry-entry.ensures (c.if-entry-self.false ∙ c.requires.code)
    c.in-Some.placement there (c.is_none.ensures.0 c.if-is_none.true)

pub placement_by_dims-placement-requires-clause-prepared : goal.placement_by_dims-placement-requires-clause-prepared
placement_by_dims-placement-requires-clause-prepared c =
    c.part-prepared.ensures c.get-part.result.now
    (slice_get-get_or c.args.self.now.parts.now c.args.i c.get-part.result.now c.requires.inside ∙ ap (λ (p : PartPlan). Some p) (sym (c.get-part.ensures c.get-part.result.now)))

pub returns-then-not-is_inside : goal.returns-then-not-is_inside
returns-then-not-is_inside c = λ part at_i.
    let o = c.args.self.now in
    let one = c.get-part.result.now in
    let placement = c.match-listed_placement.placement in
    let at : IsInBox one o.pos o.row.now.items placement
    = elim c.match-listed_placement.branch [
      | in-Some-listed_placement w ↦ subst (IsInBox one o.pos o.row.now.items) (sym w.placement-is)
          (subst (λ (xs : List ℤ). IsInBox one o.pos xs w.in-Some-listed_placement.placement) c.as_slice-row.ensures.value w.in-Some-listed_placement.ensures)
      | in-None w ↦ subst (IsInBox one o.pos o.row.now.items) (sym w.placement-is) w.placement_by_dims-placement.ensures
    ] in
    let there = subst (λ p. IsInBox p o.pos o.row.now.items placement) (c.get-part.ensures one ∙ get_or_from_slice_get o.parts.now c.args.i part one at_i) at in
    outside_box o.q.now o.parts.now o.pos o.part_index.now c.requires.part_index o.row.now.items c.args.i part at_i c.entry-entry.result.now c.entry-entry.ensures (c.if-entry-self.false ∙ c.requires.code)
    placement there (sym c.is_inside.ensures ∙ c.if-not-is_inside.true)

pub returns-then-is_none-2 : goal.returns-then-is_none-2
returns-then-is_none-2 c = λ part at_i.
    let o = c.args.self.now in
    let one = c.get-part.result.now in
    let placement = c.match-listed_placement.placement in
    let at : IsInBox one o.pos o.row.now.items placement
    = elim c.match-listed_placement.branch [
      | in-Some-listed_placement w ↦ subst (IsInBox one o.pos o.row.now.items) (sym w.placement-is)
          (subst (λ (xs : List ℤ). IsInBox one o.pos xs w.in-Some-listed_placement.placement) c.as_slice-row.ensures.value w.in-Some-listed_placement.ensures)
      | in-None w ↦ subst (IsInBox one o.pos o.row.now.items) (sym w.placement-is) w.placement_by_dims-placement.ensures
    ] in
    let there = subst (λ p. IsInBox p o.pos o.row.now.items placement) (c.get-part.ensures one ∙ get_or_from_slice_get o.parts.now c.args.i part one at_i) at in
    unasked_there o.q.now o.parts.now o.pos o.part_index.now c.requires.part_index o.row.now.items c.args.i part at_i c.entry-entry.result.now c.entry-entry.ensures (c.if-entry-self.false ∙ c.requires.code)
    placement there (c.is_none-2.ensures.0 c.if-is_none-2.true)

pub returns-then-meets : goal.returns-then-meets
returns-then-meets c = λ part at_i.
    let o = c.args.self.now in
    let one = c.get-part.result.now in
    let placement = c.match-listed_placement.placement in
    let at : IsInBox one o.pos o.row.now.items placement
    = elim c.match-listed_placement.branch [
      | in-Some-listed_placement w ↦ subst (IsInBox one o.pos o.row.now.items) (sym w.placement-is)
          (subst (λ (xs : List ℤ). IsInBox one o.pos xs w.in-Some-listed_placement.placement) c.as_slice-row.ensures.value w.in-Some-listed_placement.ensures)
      | in-None w ↦ subst (IsInBox one o.pos o.row.now.items) (sym w.placement-is) w.placement_by_dims-placement.ensures
    ] in
    let there = subst (λ p. IsInBox p o.pos o.row.now.items placement) (c.get-part.ensures one ∙ get_or_from_slice_get o.parts.now c.args.i part one at_i) at in
    met o.q.now o.parts.now o.pos o.part_index.now c.requires.part_index o.row.now.items c.args.i part at_i c.entry-entry.result.now c.entry-entry.ensures (c.if-entry-self.false ∙ c.requires.code)
    placement there (sym c.meets.ensures ∙ c.if-meets.true)

pub returns-else-meets : goal.returns-else-meets
returns-else-meets c = λ part at_i.
    let o = c.args.self.now in
    unmet o.q.now o.parts.now o.pos o.part_index.now c.requires.part_index o.row.now.items c.args.i part at_i c.entry-entry.result.now c.entry-entry.ensures (c.if-entry-self.false ∙ c.requires.code)
    (sym c.meets.ensures ∙ c.if-meets.false)
