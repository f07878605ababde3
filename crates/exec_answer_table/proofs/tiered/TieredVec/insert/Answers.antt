use Rattle.std.proofs.Common.{◌≡◌, ℕ, ◌+◌, ◌*◌, ◌/◌, ◌≤◌, length, arith, refl, ap, ◌∙◌}
use Rattle.std.specs.List.{insert}
use Rattle.std.proofs.lemmas.List.{with_items_is}
use Rattle.std.proofs.lemmas.List.Edits.{length-insert}
use Rattle.exec_answer_table.proofs.Tiers.{length-items_of, is_plain, put_items, put_last, put_among, still_tiered}
use Rattle.exec_answer_table.proofs.tiered.TieredVec.insert.Goals as goal

pub insert-requires : goal.insert-requires
insert-requires c =
    let place = rw (← c.self.view_is) at c.requires.place in
    let l = length-items_of c.self.inside.numbers.items c.self.inside.heads.items in
    let n = c.self.inside.numbers.ok.0 in
    omega (arith, place, l)

pub invariant_of-self : goal.invariant_of-self
invariant_of-self c =
    let room = rw (← c.self.view_is) at c.requires.room in
    let place = rw (← c.self.view_is) at c.requires.place in
    let l = length-items_of c.self.inside.numbers.items c.self.inside.heads.items in
    let n = c.self.inside.numbers.ok.0 in
    let all = c.self.invariant.1 in
    let stored = c.insert.ensures.succeeds (omega (arith, room, l)) in (
      rw (c.insert.ensures.items, stored)
          (still_tiered c.self.inside.numbers.items _ c.self.inside.heads.items c.self.inside.heads.items c.self.inside.room c.self.invariant.0 (omega (arith, room, l)) (length-insert c.self.inside.numbers.items c.args.place c.args.number (omega (arith, place, l))) refl (λ _ own. own) (λ _ _. refl)),
      omega (arith, all, c.insert.ensures.capacity),
      c.self.invariant.2,
    )

pub returns-then-place-full-clause-items : goal.returns-then-place-full-clause-items
returns-then-place-full-clause-items c =
    let room = rw (← c.self.view_is) at c.requires.room in
    let place = rw (← c.self.view_is) at c.requires.place in
    let l = length-items_of c.self.inside.numbers.items c.self.inside.heads.items in
    let n = c.self.inside.numbers.ok.0 in
    let all = c.self.invariant.1 in
    let stored = c.insert.ensures.succeeds (omega (arith, room, l)) in
    let high : c.args.place ≤ length c.self.inside.numbers.items = omega (arith, place, l) in
    let low : length c.self.inside.numbers.items / 256 * 256 ≤ c.args.place = omega (arith, c.if-place-full.true, c.len-full.ensures) in
    rw (← c.self.view_is)
    (rw (c.insert.ensures.items, stored)
    (put_items c.self.inside.numbers.items (insert c.self.inside.numbers.items c.args.place c.args.number) c.self.inside.heads.items c.self.inside.heads.items c.args.place c.args.number
    (length-insert c.self.inside.numbers.items c.args.place c.args.number high) high
    (put_last c.self.inside.numbers.items c.self.inside.heads.items c.args.place c.args.number (is_plain c.self.inside.numbers.items c.self.inside.heads.items c.self.inside.room c.self.invariant.0) low high)))

pub invariant_of-self-2 : goal.invariant_of-self-2
invariant_of-self-2 c =
    let room = rw (← c.self.view_is) at c.requires.room in
    let l = length-items_of c.self.inside.numbers.items c.self.inside.heads.items in
    let n = c.self.inside.numbers.ok.0 in
    let m = c.self.inside.heads.ok.0 in
    let all = c.self.invariant.1 in
    let len : length c.shift_full-last.new.numbers ≡ length c.self.inside.numbers.items = omega (arith, c.shift_full-last.auto.numbers, c.deref_mut.ensures.len) in
    let same : length c.shift_full-last.new.heads ≡ length c.self.inside.heads.items = omega (arith, c.shift_full-last.auto.heads, c.deref_mut-2.ensures.len) in
    let whole = with_items_is c.self.inside.numbers c.shift_full-last.new.numbers (omega arith) in
    let heads = with_items_is c.self.inside.heads c.shift_full-last.new.heads (omega arith) in
    let stored = c.insert-2.ensures.succeeds (omega (arith, room, l)) in
    let items = rw (stored, whole) at c.insert-2.ensures.items in
    let own = simp c.deref_mut-2.ensures.value at c.shift_full-last.ensures.own in
    let others = simp c.deref_mut-2.ensures.value at c.shift_full-last.ensures.others in
    let full : c.len-full.result ≡ length c.self.inside.numbers.items = omega (arith, c.len-full.ensures) in (
      rw (heads, items)
          (still_tiered c.self.inside.numbers.items _ c.self.inside.heads.items c.shift_full-last.new.heads c.self.inside.room c.self.invariant.0 (omega (arith, room, l))
          (length-insert c.shift_full-last.new.numbers _ c.shift_full-last.result (omega (arith, len, full)) ∙ ap (λ (k : ℕ). k + 1) len)
          same
          own
          (λ block h. others block (omega (arith, h, full)))),
      omega (arith, all, c.insert-2.ensures.capacity),
      λ e. cc,
    )

pub returns-clause-items : goal.returns-clause-items
returns-clause-items c =
    let room = rw (← c.self.view_is) at c.requires.room in
    let l = length-items_of c.self.inside.numbers.items c.self.inside.heads.items in
    let n = c.self.inside.numbers.ok.0 in
    let m = c.self.inside.heads.ok.0 in
    let all = c.self.invariant.1 in
    let len : length c.shift_full-last.new.numbers ≡ length c.self.inside.numbers.items = omega (arith, c.shift_full-last.auto.numbers, c.deref_mut.ensures.len) in
    let same : length c.shift_full-last.new.heads ≡ length c.self.inside.heads.items = omega (arith, c.shift_full-last.auto.heads, c.deref_mut-2.ensures.len) in
    let whole = with_items_is c.self.inside.numbers c.shift_full-last.new.numbers (omega arith) in
    let heads = with_items_is c.self.inside.heads c.shift_full-last.new.heads (omega arith) in
    let stored = c.insert-2.ensures.succeeds (omega (arith, room, l)) in
    let full : c.len-full.result ≡ length c.self.inside.numbers.items = omega (arith, c.len-full.ensures) in
    let items = rw (stored, whole, full) at c.insert-2.ensures.items in
    let others = simp c.deref_mut-2.ensures.value at c.shift_full-last.ensures.others in
    let shifted = rw full at simp (c.deref_mut.ensures.value, c.deref_mut-2.ensures.value) at c.shift_full-last.ensures.shifted in
    rw (← c.self.view_is)
    (rw (heads, items)
    (put_among c.self.inside.numbers.items c.shift_full-last.new.numbers c.self.inside.heads.items c.shift_full-last.new.heads c.self.inside.room c.args.place c.args.number c.shift_full-last.result
    c.self.invariant.0
    len
    (λ block h. others block (omega (arith, h, full)))
    (omega (arith, c.if-place-full.false, full))
    shifted))
