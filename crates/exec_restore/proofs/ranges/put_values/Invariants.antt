use Rattle.std.proofs.Common.{◌≡◌, map, take}
use Rattle.sem_query.specs.Ranges.{at_column}
use Rattle.exec_restore.proofs.ranges.put_values.Given as goal

abbrev pub invariant-columns : goal.invariant-columns
invariant-columns l = l.tuple.items ≡ map (at_column l.columns l.values) (take l.a-index l.select)
