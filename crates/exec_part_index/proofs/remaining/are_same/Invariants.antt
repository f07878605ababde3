use Rattle.std.proofs.Common.{◌≡◌, take}
use Rattle.exec_part_index.proofs.remaining.are_same.Given as goal

abbrev pub invariant-conditions : goal.invariant-conditions
invariant-conditions l = take l.i l.list ≡ take l.i l.other
