use Rattle.std.proofs.Common.{◌++◌, ap, length, arith}
use Rattle.sem_query.specs.Parts.{each_once}
use Rattle.sem_query.proofs.Once.{once_fewer}
use Rattle.plan_split_pairs.proofs.unlike.unlike_pairs.Goals as goal

pub unreachable-requires : goal.unreachable-requires
unreachable-requires c = omega (arith, ap (λ l. length (each_once (l ++ c.as_slice.result.now))) c.new-list.ensures, once_fewer c.as_slice.result.now, c.as_slice.ensures.fits, c.in-None.ensures)
