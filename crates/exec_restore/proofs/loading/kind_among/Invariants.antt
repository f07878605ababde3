use Rattle.std.proofs.Common.{◌≡◌, drop}
use Rattle.std.specs.List.{flat_map}
use Rattle.exec_restore.specs.Loadable.{kind_in}
use Rattle.exec_restore.proofs.loading.kind_among.Given as goal

abbrev pub invariant-parts : goal.invariant-parts
invariant-parts l = kind_in (flat_map (λ part. part.streams.items) l.parts) l.i ≡ kind_in (flat_map (λ part. part.streams.items) (drop l.k l.parts)) l.i
