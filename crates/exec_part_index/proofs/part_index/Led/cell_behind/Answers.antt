use Rattle.std.proofs.Common.{arith, ◌<◌, ◌∙◌, ap, List, ℤ, Some, length, sym, subst}
use Rattle.std.proofs.lemmas.Option.{slice_get-get_or}
use Rattle.sem_query.specs.declared.plan.PartPlan.{PartPlan}
use Rattle.exec_synopsis.specs.declared.axes.Placement.{Placement}
use Rattle.exec_part_index.specs.SimpleBox.{IsInBox}
use Rattle.exec_part_index.proofs.SimpleBoxLaws.{cell_in_box}
use Rattle.std.specs.Option.{IfSome}
use Rattle.exec_part_index.specs.Shifts.{IsNextShifted}
use Rattle.exec_part_index.proofs.PreparedParts.{part_at}
use Rattle.exec_part_index.proofs.Shifting.{cell_fits, cell_next, some_follows}
use Rattle.exec_part_index.proofs.part_index.Led.cell_behind.Goals as goal

pub overflow_add-result : goal.overflow_add-result
overflow_add-result c =
    let o = c.args.self.now in
    let there = part_at o.parts.now c.args.i c.requires.stands.within in
    let shifted = subst (λ s. IfSome s (λ t. IsNextShifted o.parts.now o.pos c.args.self.now.part_index.now.codes.items c.args.self.now.part_index.now.links.items c.args.self.now.part_index.now.spans.items c.args.i t)) c.in-Some.is c.requires.entry.shift in
    let fits =
    cell_fits o.q.now o.parts.now o.pos c.args.self.now.part_index.now c.requires.part_index o.row.now.items c.args.i c.in-Some.shift there.0 there.1 shifted c.args.cell.number c.args.cell.kind
    (c.requires.stands.stands there.0 there.1) in
    omega (arith, fits)

pub returns-in-Some : goal.returns-in-Some
returns-in-Some c =
    let o = c.args.self.now in
    let there = part_at o.parts.now c.args.i c.requires.stands.within in
    let shifted = subst (λ s. IfSome s (λ t. IsNextShifted o.parts.now o.pos c.args.self.now.part_index.now.codes.items c.args.self.now.part_index.now.links.items c.args.self.now.part_index.now.spans.items c.args.i t)) c.in-Some.is c.requires.entry.shift in
    cell_next o.q.now o.parts.now o.pos c.args.self.now.part_index.now c.requires.part_index o.row.now.items c.args.i c.in-Some.shift there.0 there.1 shifted c.args.cell.number c.args.cell.kind
    (c.requires.stands.stands there.0 there.1)

pub entry-following-requires-clause-inside : goal.entry-following-requires-clause-inside
entry-following-requires-clause-inside c =
    subst (λ n. n < length c.args.self.now.parts.now) (sym c.requires.entry.next) (c.requires.entry.follows c.if-entry.true).within

pub placement-requires : goal.placement-requires
placement-requires c =
    let o = c.args.self.now in
    let part = c.get-part.result.now in
    let within = subst (λ n. n < length o.parts.now) (sym c.requires.entry.next) (c.requires.entry.follows c.if-entry.true).within in
    c.entry-following.ensures.simple_box part
    (slice_get-get_or o.parts.now c.args.entry.now.next part within ∙ ap (λ (p : PartPlan). Some p) (sym (c.get-part.ensures part)))

pub returns-in-Some-Cell : goal.returns-in-Some-Cell
returns-in-Some-Cell c =
    let o = c.args.self.now in
    let there = part_at o.parts.now c.args.i c.requires.stands.within in
    let found = Some (record { number = c.in-Some-Cell.number; kind = c.in-Some-Cell.kind }) in
    some_follows o.q.now o.parts.now o.pos o.part_index.now c.requires.part_index o.row.now.items c.args.i there.0 there.1 (c.requires.entry.follows c.if-entry.true) c.args.cell.number c.args.cell.kind
    (c.requires.stands.stands there.0 there.1) c.args.entry.now.next c.requires.entry.next found
    (cell_in_box o.parts.now o.pos o.row.now.items c.args.entry.now.next c.get-part.result.now (c.get-part.ensures c.get-part.result.now) c.placement.result
    (subst (λ (xs : List ℤ). IfSome c.placement.result (λ p. IsInBox c.get-part.result.now o.pos xs p)) c.as_slice-row.ensures.value c.placement.ensures)
    found (c.in-Some-Cell.is ∙ ap (λ (p : Placement). Some p) c.in-Some-Cell.field-0-is))
