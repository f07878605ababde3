use Rattle.std.proofs.Common.{take}
use Rattle.io_streams.specs.Sink.{Wrote}
use Rattle.std.specs.List.{flat_map}
use Rattle.adv_lines.specs.Items.{set_line}
use Rattle.cmd_advise.proofs.changes.write_sets.Given as goal

-- the texts so far were written
abbrev pub invariant-loop-set : goal.invariant-loop-set
invariant-loop-set g l = Wrote (g.O.Sink.seen l.fn.out) (g.O.Sink.seen l.out) (flat_map (set_line l.by l.names.catalog.now l.names.from.now) (take l.set-index l.sets))
