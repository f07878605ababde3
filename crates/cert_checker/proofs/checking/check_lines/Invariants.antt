use Rattle.std.proofs.Common.{drop}
use Rattle.cert_checker.proofs.Trees.{Progress}
use Rattle.cert_checker.proofs.checking.check_lines.Given as goal

abbrev pub invariant-loop-i : goal.invariant-loop-i
invariant-loop-i l = Progress l.q l.shown l.lines (drop l.i l.lines) l.walk
