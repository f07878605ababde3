use Rattle.plan_whole.proofs.Classing.{NoneBefore}
use Rattle.plan_whole.proofs.classes.name_of.Given as goal

abbrev pub invariant-loop-column : goal.invariant-loop-column
invariant-loop-column l = NoneBefore l.closed l.a l.column
