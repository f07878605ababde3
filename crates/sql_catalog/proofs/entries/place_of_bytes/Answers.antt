use Rattle.std.proofs.Common.{ap, sym, ◌∙◌, arith, ◌<◌, ◌≤◌, length}
use Rattle.std.specs.Str.{bytes_eq}
use Rattle.sql_catalog.specs.Streams.{shapes_of}
use Rattle.sql_catalog.proofs.NamedShapes.{length-shapes, number-found, number-none}
use Rattle.sql_catalog.proofs.entries.place_of_bytes.Goals as goal

pub returns-then-eq-clause-place : goal.returns-then-eq-clause-place
returns-then-eq-clause-place c =
    let streams = shapes_of c.args.streams.now.entries in
    let room : c.loop-place.place < length streams = omega (arith, c.loop-place-test.true, c.len-place-end.ensures.len, length-shapes c.args.streams.now.entries) in
    number-found streams c.args.name.now c.loop-place.place room
    (ap (λ n. bytes_eq n c.args.name.now) (sym (c.bytes.ensures.bytes ∙ c.name_at.ensures)) ∙ sym c.eq.ensures ∙ c.if-eq.true)
    c.loop-place.invariant

pub returns-clause-place : goal.returns-clause-place
returns-clause-place c =
    let streams = shapes_of c.args.streams.now.entries in
    let past : length streams ≤ c.loop-place.place = omega (arith, c.loop-place-test.false, c.len-place-end.ensures.len, length-shapes c.args.streams.now.entries) in
    number-none streams c.args.name.now c.loop-place.place past c.loop-place.invariant
