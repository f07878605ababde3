use Rattle.std.proofs.Common.{refl}
use Rattle.plan_closure.proofs.Least.{start_distances}
use Rattle.plan_closure.proofs.distances.Distances.new.Goals as goal

pub returns : goal.returns
returns c = start_distances _ c.args.attrs c.requires refl refl c.apart.ensures
