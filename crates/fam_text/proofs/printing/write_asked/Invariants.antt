use Rattle.std.proofs.Common.{take}
use Rattle.std.specs.List.{flat_map}
use Rattle.io_streams.specs.Sink.{Wrote}
use Rattle.fam_text.specs.Text.{asked_text}
use Rattle.fam_text.proofs.printing.write_asked.Given as goal

-- the rows so far were written
abbrev pub invariant-loop-i : goal.invariant-loop-i
invariant-loop-i g l = Wrote (g.O.Sink.seen l.fn.out) (g.O.Sink.seen l.out) (flat_map (asked_text l.catalog l.number) (take l.i l.asked))
