use Rattle.std.proofs.Common.{take}
use Rattle.io_streams.specs.Sink.{Wrote}
use Rattle.std.specs.List.{flat_map}
use Rattle.cmd_advise.specs.Parts.{kept_line}
use Rattle.cmd_advise.proofs.parts.write_dearest.Given as goal

-- the texts so far were written
abbrev pub invariant-loop-part : goal.invariant-loop-part
invariant-loop-part g l = Wrote (g.O.Sink.seen l.fn.out) (g.O.Sink.seen l.out) (flat_map (kept_line l.names.catalog.now l.names.from.now) (take l.part-index l.parts))
