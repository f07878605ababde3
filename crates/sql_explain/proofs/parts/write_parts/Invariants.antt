use Rattle.std.proofs.Common.{take}
use Rattle.std.specs.List.{flat_map, enumerate_from}
use Rattle.io_streams.specs.Sink.{Wrote}
use Rattle.sql_explain.specs.Text.{part_text}
use Rattle.sql_explain.proofs.parts.write_parts.Given as goal

abbrev pub invariant-loop-i : goal.invariant-loop-i
invariant-loop-i g l = Wrote (g.O.Sink.seen l.fn.out) (g.O.Sink.seen l.out) (flat_map (λ x. part_text l.catalog l.query x.0 x.1) (take l.i (enumerate_from 1 l.parts)))
