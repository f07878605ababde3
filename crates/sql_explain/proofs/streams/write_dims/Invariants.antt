use Rattle.std.proofs.Common.{take}
use Rattle.std.specs.List.{flat_map}
use Rattle.io_streams.specs.Sink.{Wrote}
use Rattle.sql_explain.specs.Text.{dim_line}
use Rattle.sql_explain.proofs.streams.write_dims.Given as goal

abbrev pub invariant-loop-dim : goal.invariant-loop-dim
invariant-loop-dim g l = Wrote (g.O.Sink.seen l.fn.out) (g.O.Sink.seen l.out) (flat_map (dim_line l.catalog l.from) (take l.dim-index l.dims))
