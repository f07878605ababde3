use Rattle.std.proofs.Common.{◌≡◌, ◌*◌, ◌<◌, length, get_or, arith, ap, sym, ◌∙◌}
use Rattle.std.proofs.lemmas.List.{get_or_default}
use Rattle.exec_answer_table.specs.Tiers.{place_of}
use Rattle.exec_answer_table.proofs.Tiers.{length-items_of, get_or-items_of, place_within, is_plain, first_place}
use Rattle.exec_answer_table.proofs.tiered.TieredVec.first.Goals as goal

pub index-requires : goal.index-requires
index-requires c =
    let place = rw (← c.self.view_is) at c.requires in
    let l = length-items_of c.self.inside.numbers.items c.self.inside.heads.items in
    let n = c.self.inside.heads.ok.0 in
    let few = c.self.invariant.0.few in
    let blocks = c.self.invariant.0.blocks in
    omega arith

pub index-requires-2 : goal.index-requires-2
index-requires-2 c =
    let place = rw (← c.self.view_is) at c.requires in
    let l = length-items_of c.self.inside.numbers.items c.self.inside.heads.items in
    let few = c.self.invariant.0.few in
    let blocks = c.self.invariant.0.blocks in
    let head = get_or_default c.self.inside.heads.items c.args.block c.index.result.now 0 (omega arith) in
    let is = c.index.ensures ∙ head in
    let own = rw (← is) at (c.self.invariant.0.own c.args.block (omega arith)) in
    let at : place_of c.self.inside.heads.items (c.args.block * 256) ≡ c.index.result.now = first_place c.self.inside.heads.items c.args.block c.index.result.now is own in
    let within = place_within c.self.inside.numbers.items c.self.inside.heads.items (c.args.block * 256) (is_plain c.self.inside.numbers.items c.self.inside.heads.items c.self.inside.room c.self.invariant.0) (omega (arith, place, l)) in
    let n = c.self.inside.numbers.ok.0 in
    omega (arith, at, within, n)

pub returns : goal.returns
returns c =
    let place = rw (← c.self.view_is) at c.requires in
    let l = length-items_of c.self.inside.numbers.items c.self.inside.heads.items in
    let few = c.self.invariant.0.few in
    let blocks = c.self.invariant.0.blocks in
    let inside : c.args.block * 256 < length c.self.inside.numbers.items = omega (arith, place, l) in
    let head = get_or_default c.self.inside.heads.items c.args.block c.index.result.now 0 (omega arith) in
    let is = c.index.ensures ∙ head in
    let own = rw (← is) at (c.self.invariant.0.own c.args.block (omega arith)) in
    let at : place_of c.self.inside.heads.items (c.args.block * 256) ≡ c.index.result.now = first_place c.self.inside.heads.items c.args.block c.index.result.now is own in
    let within = place_within c.self.inside.numbers.items c.self.inside.heads.items (c.args.block * 256) (is_plain c.self.inside.numbers.items c.self.inside.heads.items c.self.inside.room c.self.invariant.0) inside in
    rw (← c.self.view_is)
    (c.index-2.ensures
    ∙ get_or_default c.self.inside.numbers.items c.index.result.now c.index-2.result.now 0 (omega (arith, at, within))
    ∙ ap (λ p. get_or c.self.inside.numbers.items p 0) (sym at)
    ∙ sym (get_or-items_of c.self.inside.numbers.items c.self.inside.heads.items (c.args.block * 256) inside))
