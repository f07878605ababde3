use Rattle.std.proofs.Common.{◌∙◌, ap, map, sym, length, arith}
use Rattle.std.specs.Prelude.{slice_index_or}
use Rattle.exec_synopsis.specs.Joining.{told_column}
use Rattle.exec_point_lookup.proofs.Listing.{direct-is}
use Rattle.exec_point_lookup.proofs.direct.direct_at.Goals as goal

pub returns : goal.returns
returns c =
    let from = ap length c.from-from.ensures.value in
    direct-is c.args.q.now c.args.parts.now c.part-part.result.now c.args.pos c.stream_at.result c.in-Some.listed.now c.in-Some-layout_at.own.now c.in-Some-layout_at-2.other.now c.in-Some-told_columns.selected.items
    (let n = c.len.ensures in let one = c.if-len-ne1.false in omega (arith, n, one))
    (let two = c.if-from-ne2.false in let here = c.requires.here in omega (arith, from, two, here))
    (c.stream_at.ensures ∙ ap (λ xs. slice_index_or xs c.args.pos 0) c.from-from.ensures.value)
    c.part-part.ensures c.in-Some.ensures c.in-Some-layout_at.ensures c.in-Some-layout_at-2.ensures
    (ap (map (told_column c.in-Some.listed.now.told.items c.in-Some.listed.now.place c.args.pos)) (sym c.select.ensures.value) ∙ c.in-Some-told_columns.ensures)
    c.direct_from.result c.direct_from.ensures.from c.direct_from.ensures.place
