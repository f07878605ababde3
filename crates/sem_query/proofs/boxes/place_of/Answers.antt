use Rattle.std.proofs.Common.{rules, ◌≡◌, get_or, pos, ◌*◌, w64, SFits, to_z, of_z, arith, ap}
use Rattle.std.proofs.lemmas.Int.{ints}
use Rattle.sem_query.specs.Boxes.{place_of}
use Rattle.sem_query.proofs.BoxLaws.{place-below, place-next, place-end, sound-total, as-many}
use Rattle.sem_query.proofs.boxes.place_of.Goals as goal

pub overflow_mul-place : goal.overflow_mul-place
overflow_mul-place c =
    let n = place-next c.args.dims.now c.args.values.now c.places.i (record { attr = record { stream = 0; column = 0 }; lo = pos 0; hi = pos 0 }) (pos 0) c.places.place (place_of c.args.dims.now c.args.values.now) c.places-test.true (omega (arith, as-many c.args.dims.now c.args.values.now c.requires.inside, c.places-test.true)) c.places.invariant.inside c.places.invariant.place in
    let b = place-below c.args.dims.now c.args.values.now c.requires.inside in
    let t = sound-total c.args.dims.now c.requires.sound in
    let e = ap (λ k. c.places.place * k) c.dim_size.ensures in
    omega (arith, n, b, t, e)

pub overflow_add-place : goal.overflow_add-place
overflow_add-place c =
    let v = get_or c.args.values.now c.places.i (pos 0) in
    let fits : SFits w64 v = search rules in
    let same : to_z w64 (of_z w64 v) ≡ v = omega (arith, ints) in
    let n = place-next c.args.dims.now c.args.values.now c.places.i (record { attr = record { stream = 0; column = 0 }; lo = pos 0; hi = pos 0 }) (pos 0) c.places.place (place_of c.args.dims.now c.args.values.now) c.places-test.true (omega (arith, as-many c.args.dims.now c.args.values.now c.requires.inside, c.places-test.true)) c.places.invariant.inside c.places.invariant.place in
    let b = place-below c.args.dims.now c.args.values.now c.requires.inside in
    let t = sound-total c.args.dims.now c.requires.sound in
    let e = ap (λ k. c.places.place * k) c.dim_size.ensures in
    let o = rw same at c.offset.ensures in
    omega (arith, n, b, t, e, o)

pub returns-clause-below : goal.returns-clause-below
returns-clause-below c =
    let e = place-end c.args.dims.now c.args.values.now c.places.i c.places.place c.places-test.false c.places.invariant.place in
    omega (arith, e, place-below c.args.dims.now c.args.values.now c.requires.inside)
