use Rattle.std.proofs.Common.{take}
use Rattle.io_streams.specs.Sink.{Wrote}
use Rattle.std.specs.List.{flat_map}
use Rattle.cmd_advise.specs.Changes.{cheaper_line}
use Rattle.cmd_advise.proofs.changes.write_comparisons.Given as goal

-- the texts so far were written
abbrev pub invariant-loop-cheaper : goal.invariant-loop-cheaper
invariant-loop-cheaper g l = Wrote (g.O.Sink.seen l.fn.out) (g.O.Sink.seen l.out) (flat_map (cheaper_line l.names.catalog.now l.names.from.now) (take l.cheaper-index l.list))
