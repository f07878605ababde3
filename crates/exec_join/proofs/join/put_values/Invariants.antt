use Rattle.std.proofs.Common.{◌≡◌, take}
use Rattle.exec_join.specs.Joining.{told_values}
use Rattle.exec_join.proofs.join.put_values.Given as goal

abbrev pub invariant-selected : goal.invariant-selected
invariant-selected l = l.tuple.items ≡ told_values l.listed l.arriving l.row (take l.a-index l.select)
