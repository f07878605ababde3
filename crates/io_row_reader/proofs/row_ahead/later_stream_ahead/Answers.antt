use Rattle.std.proofs.Common.{ℕ, ◌+◌, List, length, ap, ◌∙◌, subst, arith}
use Rattle.io_row_reader.specs.Ahead.{BeginsStream}
use Rattle.io_row_reader.proofs.NamesAhead.{stream_begins}
use Rattle.io_row_reader.proofs.row_ahead.later_stream_ahead.Goals as goal

pub returns-in-Some-clause-begins : goal.returns-in-Some-clause-begins
returns-in-Some-clause-begins c =
    let is = c.bytes-name.ensures.bytes ∙ c.stream_name.ensures in
    subst (λ (len : ℕ). BeginsStream c.args.catalog.now c.args.text.now c.loop-stream.stream len) (c.in-Some.ensures.0 ∙ ap (λ (name : List ℕ). length name + 1) is)
    (stream_begins c.args.catalog.now c.args.text.now c.loop-stream.stream c.in-Some._len c.bytes-name.result.now c.len-stream-end.ensures.catalog (omega (arith, c.loop-stream-test.true, c.len-stream-end.ensures.len))
    is (omega (arith, c.bytes-name.ensures.short, ap length c.bytes-name.ensures.bytes)) c.in-Some.ensures)
