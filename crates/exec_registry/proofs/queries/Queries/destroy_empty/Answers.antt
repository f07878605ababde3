use Rattle.std.proofs.Common.{arith}
use Rattle.exec_registry.proofs.Shown.{size_run}
use Rattle.exec_registry.proofs.queries.Queries.destroy_empty.Goals as goal

pub destroy_empty-requires : goal.destroy_empty-requires
destroy_empty-requires c = (let size = size_run c.self.inside.rows c.self.inside.names.keys c.self.inside.runners.items c.args.self c.self.invariant.0 c.self.view_is in omega (arith, size, c.requires))
