use Rattle.std.proofs.Common.{◌<◌, length, ap, arith}
use Rattle.std.proofs.lemmas.List.Splits.{length-slice_split}
use Rattle.sql_text.specs.Lines.{parts_behind}
use Rattle.sql_catalog.specs.Rows.{is_comma}
use Rattle.sql_catalog.proofs.RowRefusals.{too_many}
use Rattle.sql_catalog.proofs.field.read_fields.Goals as goal

pub returns-then-len-width-clause-row : goal.returns-then-len-width-clause-row
returns-then-len-width-clause-row c =
    let left = ap (λ r. length (parts_behind 44 r)) c.in-Some.is in
    let more : length c.args.columns.now < length (parts_behind 44 c.args.fields) =
    omega (arith, c.loop-rest.invariant.count, c.loop-rest.invariant.width, left, c.if-len-width.true, c.len.ensures.value, length-slice_split is_comma c.in-Some.text.now) in
    λ stream. too_many stream c.args.columns.now (parts_behind 44 c.args.fields) more
