use Rattle.std.proofs.Common.{[]}
use Rattle.io_row_reader.proofs.RowsCounted.{some_last, some_more}
use Rattle.io_row_reader.proofs.counted_row.any_fields_end.Goals as goal

pub bounds-text-end : goal.bounds-text-end
bounds-text-end c = (c.in-Some.ensures.adds []).within

pub returns-then-read-width : goal.returns-then-read-width
returns-then-read-width c = some_last c.args.text.now c.args.start c.fields.place c.in-Some.end c.fields.read c.args.width c.fields.invariant c.in-Some.ensures c.if-read-width.true

pub fields-preserved : goal.fields-preserved
fields-preserved c = some_more c.args.text.now c.args.start c.fields.place c.in-Some.end c.fields.read c.requires.ended c.fields.invariant c.in-Some.ensures c.if-text-end-ne44.false
