use Rattle.std.proofs.Common.{◌+◌, ap, arith}
use Rattle.io_row_reader.proofs.RowsCounted.{some_integer}
use Rattle.io_row_reader.proofs.counted_row.integer_end.Goals as goal

pub returns-in-Some : goal.returns-in-Some
returns-in-Some c =
    let start = c.args.start in
    let d = c.in-Some in
    some_integer c.args.text.now start (start + d.digits) (ap (λ n. start + n) d.ensures.digits) d.ensures.within (omega (arith, d.ensures.some), omega (arith, d.ensures.few))
