use Rattle.std.proofs.Common.{take, codes}
use Rattle.io_streams.specs.Sink.{Wrote}
use Rattle.sql_printer.specs.PrintedParts.{each_behind, atom_text}
use Rattle.sql_printer.proofs.printing.put_more_atoms.Given as goal

abbrev pub invariant-loop-atom : goal.invariant-loop-atom
invariant-loop-atom g l = Wrote (g.O.Sink.seen l.fn.out) (g.O.Sink.seen l.out) (each_behind (codes " AND ") atom_text (take l.atom-index l.atoms))
