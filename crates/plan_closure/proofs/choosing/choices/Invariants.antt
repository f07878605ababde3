use Rattle.std.proofs.Common.{take}
use Rattle.std.specs.List.{AllZip}
use Rattle.sem_query.specs.Parts.{pairs}
use Rattle.plan_closure.specs.Choices.{IsChoice}
use Rattle.plan_closure.proofs.choosing.choices.Given as goal

abbrev pub invariant-loop-i : goal.invariant-loop-i
invariant-loop-i l = AllZip (IsChoice l.q) (take l.i (pairs l.q)) l.list.items
