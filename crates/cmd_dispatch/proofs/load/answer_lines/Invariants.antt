use Rattle.std.proofs.Common.{length}
use Rattle.cmd_dispatch.proofs.LoadSteps.{LoadProgress}
use Rattle.cmd_dispatch.proofs.load.answer_lines.Given as goal

abbrev pub invariant-answering : goal.invariant-answering
invariant-answering g l = LoadProgress l.fn.script l.script l.session l.lines

abbrev pub decreases-answering : goal.decreases-answering
decreases-answering g l = length l.script
