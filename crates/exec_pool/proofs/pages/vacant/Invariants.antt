use Rattle.std.proofs.Common.{◌≡◌, take, is_some}
use Rattle.std.specs.List.{count_by}
use Rattle.exec_pool.proofs.pages.vacant.Given as goal

abbrev pub invariant-loop-i : goal.invariant-loop-i
invariant-loop-i l = count_by is_some (take l.i l.slots) ≡ l.i
