use Rattle.std.proofs.Common.{◌≡◌, ◌≢◌, ◌⊎◌, inl, inr, length, int_lt, pos, true, get_or, arith, rules, sym, ◌∙◌, FitsSigned, w64}
use Rattle.std.proofs.lemmas.Int.{to_z-of_z}
use Rattle.sem_query.proofs.WithNew.{int_lt-asymmetric, with_new-room, with_new-inserts, with_new-keeps}
use Rattle.plan_split_pairs.proofs.integers.put_integer.Goals as goal
use Rattle.plan_split_pairs.proofs.integers.put_integer.Goals.{then-place-len-via-then-place-len, then-place-len-via-else-place-len+then-value-as_slice}

pub insert-requires : goal.insert-requires
insert-requires c =
    let integers = c.args.integers.now.items in
    let place = c.integers_before-place.result in
    let fits : FitsSigned w64 c.args.value = search rules in
    let before = simp (to_z-of_z, c.as_slice.ensures.value) at c.integers_before-place.ensures in
    let new : (place ≡ length integers) ⊎ (int_lt c.args.value (get_or integers place (pos 0)) ≡ true) =
    elim c.then-place-len.branch [
      | then-place-len-via-then-place-len w ↦ inl (w.if-place-len.true ∙ c.len.ensures.value)
      | then-place-len-via-else-place-len+then-value-as_slice w ↦
          inr (let next_fits : FitsSigned w64 (get_or w.as_slice-else-place-len.result.now c.integers_before-place.result (pos 0)) = search rules in simp w.as_slice-else-place-len.ensures.value at (simp to_z-of_z at w.if-value-as_slice.true))
    ] in
    let room = with_new-room int_lt int_lt-asymmetric c.args.value integers place (pos 0) 56 before new c.requires in
    (omega arith, (room.0, room.1))

pub returns-then-place-len : goal.returns-then-place-len
returns-then-place-len c =
    let integers = c.args.integers.now.items in
    let place = c.integers_before-place.result in
    let fits : FitsSigned w64 c.args.value = search rules in
    let before = simp (to_z-of_z, c.as_slice.ensures.value) at c.integers_before-place.ensures in
    let new : (place ≡ length integers) ⊎ (int_lt c.args.value (get_or integers place (pos 0)) ≡ true) =
    elim c.then-place-len.branch [
      | then-place-len-via-then-place-len w ↦ inl (w.if-place-len.true ∙ c.len.ensures.value)
      | then-place-len-via-else-place-len+then-value-as_slice w ↦
          inr (let next_fits : FitsSigned w64 (get_or w.as_slice-else-place-len.result.now c.integers_before-place.result (pos 0)) = search rules in simp w.as_slice-else-place-len.ensures.value at (simp to_z-of_z at w.if-value-as_slice.true))
    ] in
    (simp to_z-of_z at c.insert.ensures.items) ∙ with_new-inserts int_lt int_lt-asymmetric c.args.value integers place (pos 0) before new

pub returns-else-value-as_slice : goal.returns-else-value-as_slice
returns-else-value-as_slice c =
    let integers = c.args.integers.now.items in
    let place = c.integers_before-place.result in
    let fits : FitsSigned w64 c.args.value = search rules in
    let before = simp (to_z-of_z, c.as_slice.ensures.value) at c.integers_before-place.ensures in
    let next_fits : FitsSigned w64 (get_or c.as_slice-else-place-len.result.now c.integers_before-place.result (pos 0)) = search rules in
    let not_less = simp c.as_slice-else-place-len.ensures.value at (simp to_z-of_z at c.if-value-as_slice.false) in
    let inside : place ≢ length integers = λ e. c.if-place-len.false (e ∙ sym c.len.ensures.value) in
    with_new-keeps int_lt int_lt-asymmetric c.args.value integers place (pos 0) before inside not_less
