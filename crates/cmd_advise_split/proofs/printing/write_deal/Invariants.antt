use Rattle.std.proofs.Common.{take, length}
use Rattle.std.specs.List.{flat_map, range_with_len}
use Rattle.io_streams.specs.Sink.{Wrote}
use Rattle.cmd_advise_split.specs.Text.{stream_text}
use Rattle.cmd_advise_split.proofs.printing.write_deal.Given as goal

-- the streams so far were written
abbrev pub invariant-loop-number : goal.invariant-loop-number
invariant-loop-number g l = Wrote (g.O.Sink.seen l.fn.out) (g.O.Sink.seen l.out) (flat_map (stream_text l.catalog l.choice) (take l.number (range_with_len 0 (length l.catalog))))
