use Rattle.std.proofs.Common.{◌+◌, ap, refl, arith}
use Rattle.io_row_reader.proofs.RowsCounted.{some_integer, some_negative}
use Rattle.io_row_reader.proofs.counted_row.any_integer_end.Goals as goal

pub returns-then-are_short : goal.returns-then-are_short
returns-then-are_short c = some_integer c.args.text.now c.args.start c.digits_end-end.result c.digits_end-end.ensures.end c.digits_end-end.ensures.within (c.if-are_short.ensures refl)

pub returns-in-Some : goal.returns-in-Some
returns-in-Some c =
    let start = c.args.start in
    let d = c.in-Some in
    some_negative c.args.text.now start (start + 1 + d.digits) (ap (λ n. start + 1 + n) d.ensures.digits) d.ensures.within c.if-text-start-ne45.false (omega (arith, d.ensures.some), omega (arith, d.ensures.few))

pub returns-then-are_short-2 : goal.returns-then-are_short-2
returns-then-are_short-2 c =
    let end = c.digits_end-end-2 in
    some_negative c.args.text.now c.args.start end.result end.ensures.end end.ensures.within c.if-text-start-ne45.false (c.if-are_short-2.ensures refl)
