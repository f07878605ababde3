use Rattle.std.proofs.Common.{rules, ◌≡◌, ◌+◌, ◌<◌, get_or, drop, pos, ◌+ℤ◌, ◌/◌, ◌%◌, [], ◌∷◌, ◌++◌, w64, SFits, to_z, of_z, arith, sym, ap, ◌∙◌, append_assoc}
use Rattle.std.proofs.lemmas.Int.{ints}
use Rattle.std.proofs.Math.Nat.{mod-lt}
use Rattle.sem_query.specs.Boxes.{box_size, values_at}
use Rattle.sem_query.proofs.BoxLaws.{sound-after, value-below, list-after}
use Rattle.sem_query.proofs.boxes.values_at.Goals as goal

pub value_at-requires : goal.value_at-requires
value_at-requires c =
    let h = value-below c.args.dims.now c.values.dim-index _ c.dim_size-size.result c.values.size c.values.rest c.values-test.true c.dim_size-size.ensures c.values.invariant.size c.values.invariant.rest in
    omega (arith, h.0, c.dim_size-size.ensures)

pub values-preserved : goal.values-preserved
values-preserved c =
    let h = value-below c.args.dims.now c.values.dim-index _ c.dim_size-size.result c.values.size c.values.rest c.values-test.true c.dim_size-size.ensures c.values.invariant.size c.values.invariant.rest in
    let fits : SFits w64 c.value_at.result = search rules in
    let same : to_z w64 (of_z w64 c.value_at.result) ≡ c.value_at.result = omega (arith, ints) in
    let S = box_size (drop (c.values.dim-index + 1) c.args.dims.now) in
    let pushed = rw same at c.push.ensures.items in
    let whole : c.values.size / c.dim_size-size.result ≡ S = h.1 in
    let value = c.value_at.ensures ∙ ap (λ n. (get_or c.args.dims.now c.values.dim-index (record { attr = record { stream = 0; column = 0 }; lo = pos 0; hi = pos 0 })).lo +ℤ pos (c.values.rest / n)) whole in
    let some : 0 < S = h.2 in
    record {
      values =
          ap (λ xs. xs ++ values_at (drop (c.values.dim-index + 1) c.args.dims.now) (c.values.rest % (c.values.size / c.dim_size-size.result))) pushed
          ∙ append_assoc c.values.values.items (c.value_at.result ∷ []) _
          ∙ ap (λ n. c.values.values.items ++ c.value_at.result ∷ values_at (drop (c.values.dim-index + 1) c.args.dims.now) (c.values.rest % n)) whole
          ∙ ap (λ v. c.values.values.items ++ v ∷ values_at (drop (c.values.dim-index + 1) c.args.dims.now) (c.values.rest % S)) value
          ∙ ap (λ xs. c.values.values.items ++ xs) (sym (list-after c.args.dims.now c.values.dim-index _ c.values.rest c.values-test.true))
          ∙ c.values.invariant.values;
      size = whole;
      rest = rw whole (mod-lt c.values.rest some);
      sound = sound-after c.args.dims.now c.values.dim-index (record { attr = record { stream = 0; column = 0 }; lo = pos 0; hi = pos 0 }) c.values-test.true c.values.invariant.sound;
      room = omega (arith, c.push.ensures.len, c.values.invariant.room);
    }
