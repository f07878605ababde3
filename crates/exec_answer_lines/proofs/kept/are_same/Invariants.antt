use Rattle.std.proofs.Common.{◌≡◌, take}
use Rattle.exec_answer_lines.proofs.kept.are_same.Given as goal

abbrev pub invariant-values : goal.invariant-values
invariant-values l = take l.i l.tuple ≡ take l.i l.other
