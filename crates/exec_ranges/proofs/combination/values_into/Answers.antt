use Rattle.std.proofs.Common.{rules, ◌≡◌, ◌+◌, ◌<◌, get_or, drop, pos, ◌+ℤ◌, ◌/◌, ◌%◌, [], ◌∷◌, ◌++◌, w64, SFits, to_z, of_z, arith, sym, ap, ◌∙◌, append_assoc, subst, map}
use Rattle.std.proofs.lemmas.Int.{ints}
use Rattle.std.proofs.Math.Nat.{mod-lt}
use Rattle.sem_query.specs.Boxes.{box_size, values_at}
use Rattle.sem_query.proofs.BoxLaws.{sound-after, value-below, list-after}
use Rattle.std.proofs.lemmas.List.{take_all}
use Rattle.exec_ranges.proofs.LeastLaws.{least-values}
use Rattle.exec_ranges.proofs.combination.values_into.Goals as goal

pub quotient-stride-requires : goal.quotient-stride-requires
quotient-stride-requires c =
    let h = value-below c.args.dims.now c.values.dim-index _ c.dim_size-count.result c.values.size c.values.rest c.values-test.true c.dim_size-count.ensures c.values.invariant.size c.values.invariant.rest in
    omega (arith, h.0)

pub quotient-requires : goal.quotient-requires
quotient-requires c =
    let h = value-below c.args.dims.now c.values.dim-index _ c.dim_size-count.result c.values.size c.values.rest c.values-test.true c.dim_size-count.ensures c.values.invariant.size c.values.invariant.rest in
    omega (arith, h.1, h.2, c.quotient-stride.ensures)

pub value_at-requires : goal.value_at-requires
value_at-requires c =
    let h = value-below c.args.dims.now c.values.dim-index _ c.dim_size-count.result c.values.size c.values.rest c.values-test.true c.dim_size-count.ensures c.values.invariant.size c.values.invariant.rest in
    let below = subst (λ n. c.values.rest / n < c.dim_size-count.result) (sym c.quotient-stride.ensures) h.0 in
    omega (arith, below, c.quotient.ensures, c.dim_size-count.ensures)

pub remainder-rest-requires : goal.remainder-rest-requires
remainder-rest-requires c =
    let h = value-below c.args.dims.now c.values.dim-index _ c.dim_size-count.result c.values.size c.values.rest c.values-test.true c.dim_size-count.ensures c.values.invariant.size c.values.invariant.rest in
    omega (arith, h.1, h.2, c.quotient-stride.ensures)

pub values-preserved : goal.values-preserved
values-preserved c =
    let h = value-below c.args.dims.now c.values.dim-index _ c.dim_size-count.result c.values.size c.values.rest c.values-test.true c.dim_size-count.ensures c.values.invariant.size c.values.invariant.rest in
    let fits : SFits w64 c.value_at.result = search rules in
    let same : to_z w64 (of_z w64 c.value_at.result) ≡ c.value_at.result = omega (arith, ints) in
    let S = box_size (drop (c.values.dim-index + 1) c.args.dims.now) in
    let pushed = rw same at c.push-in-values.ensures.items in
    let whole : c.quotient-stride.result ≡ S = c.quotient-stride.ensures ∙ h.1 in
    let value = c.value_at.ensures ∙ ap (λ n. (get_or c.args.dims.now c.values.dim-index (record { attr = record { stream = 0; column = 0 }; lo = pos 0; hi = pos 0 })).lo +ℤ pos n) (c.quotient.ensures ∙ ap (λ n. c.values.rest / n) whole) in
    let some : 0 < S = h.2 in
    let left : c.remainder-rest.result ≡ c.values.rest % S = c.remainder-rest.ensures ∙ ap (λ n. c.values.rest % n) whole in
    record {
      values =
          ap (λ xs. xs ++ values_at (drop (c.values.dim-index + 1) c.args.dims.now) c.remainder-rest.result) pushed
          ∙ append_assoc c.values.values.items (c.value_at.result ∷ []) _
          ∙ ap (λ n. c.values.values.items ++ c.value_at.result ∷ values_at (drop (c.values.dim-index + 1) c.args.dims.now) n) left
          ∙ ap (λ v. c.values.values.items ++ v ∷ values_at (drop (c.values.dim-index + 1) c.args.dims.now) (c.values.rest % S)) value
          ∙ ap (λ xs. c.values.values.items ++ xs) (sym (list-after c.args.dims.now c.values.dim-index _ c.values.rest c.values-test.true))
          ∙ c.values.invariant.values;
      size = whole;
      rest = (let m = mod-lt c.values.rest some in omega (arith, m, left, whole));
      sound = sound-after c.args.dims.now c.values.dim-index (record { attr = record { stream = 0; column = 0 }; lo = pos 0; hi = pos 0 }) c.values-test.true c.values.invariant.sound;
      room = omega (arith, c.push-in-values.ensures.len, c.values.invariant.room);
    }

pub returns-then-combinations-eq1 : goal.returns-then-combinations-eq1
returns-then-combinations-eq1 c =
    let first : c.args.place ≡ 0 = omega (arith, c.requires.below, c.if-combinations-eq1.true) in
    let all : c.least.values.items ≡ map (λ d. d.lo) c.args.dims.now = c.least.invariant ∙ ap (map (λ d. d.lo)) (take_all c.least.dim-index c.args.dims.now (omega (arith, c.least-test.false))) in
    all ∙ sym (ap (values_at c.args.dims.now) first ∙ least-values c.args.dims.now (sym c.requires.size ∙ c.if-combinations-eq1.true))
