use Rattle.std.proofs.Common.{take}
use Rattle.std.specs.List.{flat_map, zip}
use Rattle.io_streams.specs.Sink.{Wrote}
use Rattle.sql_explain.specs.Text.{sign_line}
use Rattle.sql_explain.proofs.signs.write_pairs.Given as goal

abbrev pub invariant-loop-i : goal.invariant-loop-i
invariant-loop-i g l = Wrote (g.O.Sink.seen l.fn.out) (g.O.Sink.seen l.out) (flat_map (λ x. sign_line l.catalog l.from x.0 x.1) (take l.i (zip l.pairs l.signs)))
