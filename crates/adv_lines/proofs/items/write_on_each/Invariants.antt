use Rattle.std.proofs.Common.{take}
use Rattle.io_streams.specs.Sink.{Wrote}
use Rattle.std.specs.List.{flat_map}
use Rattle.adv_lines.specs.Items.{remedy_on}
use Rattle.adv_lines.proofs.items.write_on_each.Given as goal

-- the texts so far were written
abbrev pub invariant-loop-attr : goal.invariant-loop-attr
invariant-loop-attr g l = Wrote (g.O.Sink.seen l.fn.out) (g.O.Sink.seen l.out) (flat_map (remedy_on l.remedy l.names.catalog.now l.names.from.now) (take l.attr-index l.set))
