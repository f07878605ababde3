use Rattle.std.proofs.Common.{List, length, ap, ◌∙◌, sym, arith}
use Rattle.sql_catalog.specs.Streams.{Shape, lie_within, shape_at}
use Rattle.io_row_reader.proofs.RowsAhead.{row_kept}
use Rattle.io_row_reader.proofs.row_ahead.read_rest_at.Goals as goal

pub returns : goal.returns
returns c = λ start begins so_far.
    let columns = c.columns-columns.ensures.columns ∙ ap (λ (l : List Shape). (shape_at l c.args.stream).columns) c.all.ensures in
    let values = c.read_other_fields_at.new.row.items in
    row_kept c.args.streams.now.streams c.args.text.now c.args.stream start c.in-Some.end c.in-Some-line_len.len values begins (c.in-Some.ensures.fields start so_far) c.in-Some-line_len.ensures (omega (arith, c.if-text-len.false))
    (c.in-Some.ensures.width ∙ ap length (c.as_slice.ensures ∙ columns)) (omega (arith, c.in-Some.ensures.width, ap length c.as_slice.ensures, c.columns-columns.ensures.few))
    (ap (λ cs. lie_within cs values) (sym columns) ∙ ap (lie_within c.columns-columns.result.now) (sym c.as_slice-2.ensures.value) ∙ sym c.keep.ensures ∙ c.if-not-keep.false)
