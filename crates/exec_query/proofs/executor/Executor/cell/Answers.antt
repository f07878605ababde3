use Rattle.exec_query.specs.Executor.{ExecutorValue}
use Rattle.exec_query.proofs.Loadings.{cell-stands}
use Rattle.exec_query.proofs.executor.Executor.cell.Goals as goal

pub read-requires-clause-within : goal.read-requires-clause-within
read-requires-clause-within g c =
    let e : ExecutorValue = record { query = c.self.inside.planned.query; shared = c.self.inside.shared; plan = c.self.inside.planned.plan; extent = c.self.inside.planned.extent; given = c.self.inside.given; table = c.self.inside.table; saturation = c.self.inside.saturation } in
    cell-stands e c.args.self.now c.self.view_is c.self.invariant.0 c.args.i c.requires.there
