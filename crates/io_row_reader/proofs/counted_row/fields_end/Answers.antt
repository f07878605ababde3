use Rattle.std.proofs.Common.{◌+◌, ◌≤◌, length, take, drop, arith}
use lib.Count.{count_trailing_zeros}
use Rattle.io_row_reader.proofs.MarkedFields.{marked_begin, marked_more, marked_rest, some_marked}
use Rattle.io_row_reader.proofs.PairEnds.{mark_next}
use Rattle.io_row_reader.proofs.RowsCounted.{some_last}
use Rattle.io_row_reader.proofs.counted_row.fields_end.Goals as goal

pub fields-init : goal.fields-init
fields-init c =
    marked_begin c.args.text.now c.args.start c.marks_of-marks.result (omega (arith, c.if-text-start-lt-LANES.false, c.requires.here))
    (c.marks_of-marks.ensures)

pub returns-then-marks-eq0 : goal.returns-then-marks-eq0
returns-then-marks-eq0 c =
    marked_rest c.args.text.now c.args.start c.fields.place c.fields.read c.fields.marks c.args.width c.fields.invariant c.fields-test.true c.any_fields_end-then-marks-eq0.result c.any_fields_end-then-marks-eq0.ensures

pub returns-then-end-place : goal.returns-then-end-place
returns-then-end-place c =
    marked_rest c.args.text.now c.args.start c.fields.place c.fields.read c.fields.marks c.args.width c.fields.invariant c.fields-test.true c.any_fields_end-then-end-place.result c.any_fields_end-then-end-place.ensures

pub bounds-text-start-in-fields : goal.bounds-text-start-in-fields
bounds-text-start-in-fields c =
    let next = mark_next (take 16 (drop c.args.start c.args.text.now)) c.fields.place c.fields.marks c.fields.invariant.marked (omega (arith, c.if-marks-eq0.false)) in
    omega (arith, next.within, c.if-text-start-lt-LANES.false, c.requires.here)

pub returns-then-read-width : goal.returns-then-read-width
returns-then-read-width c =
    let end = count_trailing_zeros 64 c.fields.marks in
    let next = mark_next (take 16 (drop c.args.start c.args.text.now)) c.fields.place c.fields.marks c.fields.invariant.marked (omega (arith, c.if-marks-eq0.false)) in
    let room : c.args.start + 16 ≤ length c.args.text.now = omega (arith, c.if-text-start-lt-LANES.false, c.requires.here) in
    some_last c.args.text.now c.args.start (c.args.start + c.fields.place) (c.args.start + end) c.fields.read c.args.width c.fields.invariant.are
    (some_marked c.args.text.now c.args.start c.fields.place end next room c.if-end-place.false) c.if-read-width.true

pub fields-preserved : goal.fields-preserved
fields-preserved c =
    let room : c.args.start + 16 ≤ length c.args.text.now = omega (arith, c.if-text-start-lt-LANES.false, c.requires.here) in
    marked_more c.args.text.now c.args.start c.fields.place c.fields.read c.fields.marks c.requires.ended c.fields.invariant room (omega (arith, c.if-marks-eq0.false)) c.if-end-place.false c.if-text-start-ne44.false
