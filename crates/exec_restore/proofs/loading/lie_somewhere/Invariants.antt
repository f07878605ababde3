use Rattle.std.proofs.Common.{◌≡◌, map, drop}
use Rattle.std.specs.List.{list_any}
use Rattle.sem_query.specs.Ranges.{range_of}
use Rattle.exec_restore.specs.Loadable.{are_inside}
use Rattle.exec_restore.proofs.loading.lie_somewhere.Given as goal

abbrev pub invariant-parts : goal.invariant-parts
invariant-parts l = list_any (λ part. are_inside (map (range_of l.q part) l.columns) l.values) l.parts ≡ list_any (λ part. are_inside (map (range_of l.q part) l.columns) l.values) (drop l.k l.parts)
