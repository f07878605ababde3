use Rattle.std.proofs.Common.{◌≡◌, map, take}
use Rattle.sem_query.specs.Meaning.{by_column}
use Rattle.exec_point_lookup.proofs.direct.put_selected.Given as goal

abbrev pub invariant-columns : goal.invariant-columns
invariant-columns l = l.tuple.items ≡ map (by_column l.row) (take l.column-index l.columns)
