use Rattle.std.proofs.Common.{◌≡◌, List, length, true, ap, sym, ◌∙◌, arith}
use Rattle.sql_catalog.specs.Streams.{Shape, lie_within, shape_at}
use Rattle.io_row_reader.proofs.RowsAhead.{row_ending}
use Rattle.io_row_reader.proofs.row_ahead.read_row_at.Goals as goal
use Rattle.io_row_reader.proofs.row_ahead.read_row_at.Goals.{else-not-noted-via-then-not-noted+else-not-keep, else-not-noted-via-else-not-noted}

pub returns-else-not-noted : goal.returns-else-not-noted
returns-else-not-noted c =
    let f = c.in-All.ensures in
    let n = c.noted-noted.ensures in
    let columns = (shape_at c.args.streams.now.streams c.args.stream).columns in
    let values = c.read_fields_at.new.row.items in
    let size : length values ≡ length columns = f.1 ∙ c.from-2.ensures ∙ n.width in
    let within : lie_within columns values ≡ true = elim c.else-not-noted.branch [
      | else-not-noted-via-then-not-noted+else-not-keep w ↦
          ap (λ cs. lie_within cs values) (sym (w.columns.ensures.columns ∙ ap (λ (l : List Shape). (shape_at l c.args.stream).columns) w.all.ensures))
          ∙ ap (lie_within w.columns.result.now) (sym w.as_slice.ensures.value) ∙ sym w.keep.ensures ∙ w.if-not-keep.false
      | else-not-noted-via-else-not-noted w ↦ n.free w.if-not-noted.false values size
    ] in
    row_ending c.args.streams.now.streams c.args.text.now c.args.stream c.args.start c.in-All.end values c.line_len.result c.requires.begins f.0 f.2
    size (omega (arith, f.1, c.from-2.ensures, n.few)) within c.line_len.ensures
