use Rattle.std.proofs.Common.{take}
use Rattle.std.specs.List.{AllZip}
use Rattle.cmd_advise_split.specs.Finding.{IsTold}
use Rattle.cmd_advise_split.proofs.told.tell_each.Given as goal

abbrev pub invariant-loop-i : goal.invariant-loop-i
invariant-loop-i l = AllZip (IsTold l.queries) (take l.i l.choices) l.told.items
