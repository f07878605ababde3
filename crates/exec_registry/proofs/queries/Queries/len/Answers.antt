use Rattle.std.proofs.Common.{arith}
use Rattle.exec_registry.proofs.Shown.{size_run}
use Rattle.exec_registry.proofs.queries.Queries.len.Goals as goal

pub returns : goal.returns
returns c = (let size = size_run c.self.inside.rows c.self.inside.names.keys c.self.inside.runners.items c.args.self.now c.self.invariant.0 c.self.view_is in omega (arith, size, c.len.ensures))
