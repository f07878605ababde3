use Rattle.std.proofs.Common.{rules, ◌≡◌, ◌+◌, ◌*◌, ◌∙◌, get_or, drop, refl, ap, arith, pos, ◌-ℤ◌, w64, SFits, to_z, of_z}
use Rattle.std.specs.Prelude.{nat_abs}
use Rattle.std.proofs.lemmas.Int.{ints}
use Rattle.sem_query.specs.Boxes.{box_size}
use Rattle.sem_query.specs.declared.plan.Dim.{Dim}
use Rattle.sem_query.specs.Meaning.{by_column}
use Rattle.sem_query.specs.Cells.{dim_values, row_place}
use Rattle.sem_query.proofs.BoxLaws.{place-below}
use Rattle.exec_synopsis.proofs.PlaceLaws.{at-dim, at-end, total-fits}
use Rattle.exec_synopsis.proofs.cells.row_place.Goals as goal

pub overflow_mul-place : goal.overflow_mul-place
overflow_mul-place c =
    let o : Dim = record { attr = record { stream = 0; column = 0 }; lo = pos 0; hi = pos 0 } in
    let d : Dim = get_or c.args.dims.now c.places.dim-index o in
    let v = by_column c.args.row.now in
    let t = at-dim v c.args.dims.now c.places.dim-index d o c.places.place (row_place c.args.dims.now v) c.places-test.true refl c.places.invariant.full c.places.invariant.sound c.places.invariant.inside c.places.invariant.place in
    let b = place-below c.args.dims.now (dim_values c.args.dims.now v) c.requires.inside in
    let f = total-fits c.args.dims.now c.requires.sound in
    let e = ap (λ k. c.places.place * k) c.size_of.ensures in
    omega (arith, t.within, b, f, e)

pub overflow_add-place : goal.overflow_add-place
overflow_add-place c =
    let o : Dim = record { attr = record { stream = 0; column = 0 }; lo = pos 0; hi = pos 0 } in
    let d : Dim = get_or c.args.dims.now c.places.dim-index o in
    let v = by_column c.args.row.now in
    let t = at-dim v c.args.dims.now c.places.dim-index d o c.places.place (row_place c.args.dims.now v) c.places-test.true refl c.places.invariant.full c.places.invariant.sound c.places.invariant.inside c.places.invariant.place in
    let b = place-below c.args.dims.now (dim_values c.args.dims.now v) c.requires.inside in
    let f = total-fits c.args.dims.now c.requires.sound in
    let e = ap (λ k. c.places.place * k) c.size_of.ensures in
    let fits : SFits w64 c.value_at.result = search rules in
    let same : to_z w64 (of_z w64 c.value_at.result) ≡ c.value_at.result = omega (arith, ints) in
    let n : c.offset.result ≡ nat_abs (v d.attr.column -ℤ d.lo) = c.offset.ensures.value ∙ ap (λ z. nat_abs (z -ℤ d.lo)) (same ∙ c.value_at.ensures) in
    omega (arith, t.within, b, f, e, n)

pub places-preserved : goal.places-preserved
places-preserved c =
    let o : Dim = record { attr = record { stream = 0; column = 0 }; lo = pos 0; hi = pos 0 } in
    let d : Dim = get_or c.args.dims.now c.places.dim-index o in
    let v = by_column c.args.row.now in
    let t = at-dim v c.args.dims.now c.places.dim-index d o c.places.place (row_place c.args.dims.now v) c.places-test.true refl c.places.invariant.full c.places.invariant.sound c.places.invariant.inside c.places.invariant.place in
    let fits : SFits w64 c.value_at.result = search rules in
    let same : to_z w64 (of_z w64 c.value_at.result) ≡ c.value_at.result = omega (arith, ints) in
    let n : c.offset.result ≡ nat_abs (v d.attr.column -ℤ d.lo) = c.offset.ensures.value ∙ ap (λ z. nat_abs (z -ℤ d.lo)) (same ∙ c.value_at.ensures) in
    record {
      place = (λ k. (c.places.place * c.size_of.ensures k + n k) * box_size (drop (c.places.dim-index + 1) c.args.dims.now) + row_place (drop (c.places.dim-index + 1) c.args.dims.now) v) ∙ t.place;
      full = t.full;
      sound = t.sound;
      inside = t.inside;
    }

pub returns-clause-below : goal.returns-clause-below
returns-clause-below c =
    let v = by_column c.args.row.now in
    let b = place-below c.args.dims.now (dim_values c.args.dims.now v) c.requires.inside in
    let e = at-end v c.args.dims.now c.places.dim-index c.places.place (row_place c.args.dims.now v) c.places-test.false c.places.invariant.place in
    omega (arith, b, e)
