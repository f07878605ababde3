use Rattle.std.proofs.Common.{◌≡◌, take, codes}
use Rattle.io_streams.specs.Sink.{Wrote}
use Rattle.adv_lines.specs.Items.{headed, first_range, next_range}
use Rattle.adv_lines.proofs.Texts.{lead_behind}
use Rattle.adv_lines.proofs.items.write_ranges.Given as goal

-- the ranges so far were written, and this stands before the next one
abbrev pub invariant-loop-dim : goal.invariant-loop-dim
invariant-loop-dim g l = record {
  wrote : Wrote (g.O.Sink.seen l.fn.out) (g.O.Sink.seen l.out) (headed (first_range l.names.catalog.now l.names.from.now) (next_range l.names.catalog.now l.names.from.now) (take l.dim-index l.dims));
  lead : l.lead ≡ lead_behind (codes " by ") (codes ", ") (take l.dim-index l.dims);
}
