use Rattle.std.proofs.Common.{◌≡◌, take, map}
use Rattle.sem_query.specs.Meaning.{by_column}
use Rattle.exec_synopsis.specs.Narrowing.{clip}
use Rattle.exec_join.proofs.beside.beside_dims.Given as goal

abbrev pub invariant-dims : goal.invariant-dims
invariant-dims l = l.dims.items ≡ map (clip l.arriving 0 l.part.less.items (λ a. by_column l.row a.column)) (take l.dim-index l.dim-items)
