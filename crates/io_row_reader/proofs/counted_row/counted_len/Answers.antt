use Rattle.std.proofs.Common.{refl, subst, ◌∙◌, arith}
use Rattle.sql_catalog.specs.Streams.{shape_at}
use Rattle.io_row_reader.specs.Counted.{HasFields}
use Rattle.io_row_reader.proofs.RowsCounted.{some_row}
use Rattle.io_row_reader.proofs.counted_row.counted_len.Goals as goal

pub returns : goal.returns
returns c =
    let n = c.noted-noted.ensures in
    some_row c.args.streams.now.streams c.args.text.now c.args.stream c.args.start c.in-Some.end c.in-Some-line_len.len (shape_at c.args.streams.now.streams c.args.stream).columns refl
    (omega (arith, n.width, n.few)) c.requires.begins (n.free c.if-not-noted.false)
    (subst (λ n. HasFields c.args.text.now c.args.start c.in-Some.end n) (c.from.ensures ∙ n.width) c.in-Some.ensures)
    c.in-Some-line_len.ensures (omega (arith, c.if-text-len.false))
