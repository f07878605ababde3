use Rattle.std.proofs.Common.{◌≡◌, ◌<◌, ◌-◌, length, get_or, arith, ap, sym, ◌∙◌}
use Rattle.std.proofs.lemmas.List.{get_or_default}
use Rattle.exec_answer_table.specs.Tiers.{items_of}
use Rattle.exec_answer_table.proofs.Tiers.{length-items_of, get_or-items_of, last_place}
use Rattle.exec_answer_table.proofs.tiered.TieredVec.last.Goals as goal

pub overflow_sub-len : goal.overflow_sub-len
overflow_sub-len c =
    let some = rw (← c.self.view_is) at c.requires in
    let l = length-items_of c.self.inside.numbers.items c.self.inside.heads.items in
    let n = c.self.inside.numbers.ok.0 in
    omega (arith, some, l, c.len.ensures)

pub index-requires : goal.index-requires
index-requires c =
    let some = rw (← c.self.view_is) at c.requires in
    let l = length-items_of c.self.inside.numbers.items c.self.inside.heads.items in
    let n = c.self.inside.numbers.ok.0 in
    omega (arith, some, l, c.len.ensures)

pub returns : goal.returns
returns c =
    let some = rw (← c.self.view_is) at c.requires in
    let l = length-items_of c.self.inside.numbers.items c.self.inside.heads.items in
    let n = c.self.inside.numbers.ok.0 in
    let here : c.len.result - 1 ≡ length c.self.inside.numbers.items - 1 = omega (arith, c.len.ensures) in
    let there : length (items_of c.self.inside.numbers.items c.self.inside.heads.items) - 1 ≡ length c.self.inside.numbers.items - 1 = omega (arith, l) in
    let inside : length c.self.inside.numbers.items - 1 < length c.self.inside.numbers.items = omega (arith, some, l) in
    let place = last_place c.self.inside.numbers.items c.self.inside.heads.items c.self.inside.room (length c.self.inside.numbers.items - 1) c.self.invariant.0 (omega (arith, some, l)) in
    rw (← c.self.view_is)
    (c.index.ensures
    ∙ get_or_default c.self.inside.numbers.items (c.len.result - 1) c.index.result.now 0 (omega (arith, here, inside))
    ∙ ap (λ p. get_or c.self.inside.numbers.items p 0) here
    ∙ ap (λ p. get_or c.self.inside.numbers.items p 0) (sym place)
    ∙ sym (get_or-items_of c.self.inside.numbers.items c.self.inside.heads.items (length c.self.inside.numbers.items - 1) inside)
    ∙ ap (λ j. get_or (items_of c.self.inside.numbers.items c.self.inside.heads.items) j 0) (sym there))
