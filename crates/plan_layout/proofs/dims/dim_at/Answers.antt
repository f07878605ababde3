use Rattle.plan_layout.specs.ColumnPlaces.{attr_at}
use Rattle.plan_layout.proofs.Wanting.{no_range}
use Rattle.plan_layout.proofs.dims.dim_at.Goals as goal

pub returns-in-None : goal.returns-in-None
returns-in-None c = no_range c.args.q.now c.args.p.now.signs.items c.args.place (attr_at c.args.q.now c.args.i) c.in-None.ensures
