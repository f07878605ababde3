use Rattle.sem_query.specs.Parts.{pairs}
use Rattle.std.proofs.Common.{◌≡◌, ◌∙◌, length, sym, ap, arith, ℤ, ◌-ℤ◌, nat_abs, to_z, of_z, w64}
use Rattle.std.proofs.lemmas.Int.{ints, to_z-of_z}
use Rattle.exec_ranges.specs.Values.{value_in}
use Rattle.exec_join.proofs.BoundLaws.{bound-one, bound-size}
use Rattle.exec_join.proofs.along.bound_place.Goals as goal

pub returns : goal.returns
returns c =
    let at = c.args.at.now in
    let x = c.value_in-value.result in
    let fits = c.value_in-value.type_inv in
    let same : to_z w64 (of_z w64 x) ≡ x = to_z-of_z w64 x (record { sfits = fits }) in (
      c.offset.ensures.below,
      λ v h k. bound-one at.arriving (length c.args.known.now) at.part.now.equal.items at.part.now.less.items (value_in (pairs at.q.now) at.part.now at.arriving at.row.now.items c.args.known.now) c.args.dim c.args.column x c.requires.bound c.value_in-value.ensures
          (let l = c.if-value-dim.false in omega (arith, ints, l)) (let l = c.if-dim-value.false in omega (arith, ints, l)) v h k ∙ ap (λ (z : ℤ). nat_abs (z -ℤ c.args.dim.lo)) (sym same) ∙ sym c.offset.ensures.value,
      bound-size at.arriving (length c.args.known.now) at.part.now.equal.items at.part.now.less.items (value_in (pairs at.q.now) at.part.now at.arriving at.row.now.items c.args.known.now) c.args.dim c.args.column x c.requires.bound c.value_in-value.ensures
          (let l = c.if-value-dim.false in omega (arith, ints, l)) (let l = c.if-dim-value.false in omega (arith, ints, l)),
    )
