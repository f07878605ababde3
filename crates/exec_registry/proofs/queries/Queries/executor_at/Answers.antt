use Rattle.std.proofs.Common.{arith}
use Rattle.exec_registry.proofs.Shown.{size_run, runs_but}
use Rattle.exec_registry.proofs.queries.Queries.executor_at.Goals as goal

pub index-requires : goal.index-requires
index-requires c = (let size = size_run c.self.inside.rows c.self.inside.names.keys c.self.inside.runners.items c.args.self.now c.self.invariant.0 c.self.view_is in omega (arith, size, c.requires))

pub returns : goal.returns
returns c = λ d.
    runs_but c.self.inside.rows c.self.inside.names.keys c.self.inside.runners.items c.args.self.now c.args.place c.index.result.now d c.self.invariant.0 c.self.view_is c.requires c.index.ensures
