use Rattle.std.proofs.Common.{◌∙◌, sym, ap, arith}
use Rattle.exec_query.specs.Executor.{ExecutorValue}
use Rattle.exec_registry.proofs.Shown.{size_run, runs_as, counted_at}
use Rattle.exec_registry.proofs.queries.Queries.given_at.Goals as goal

pub index-requires : goal.index-requires
index-requires c = (let size = size_run c.self.inside.rows c.self.inside.names.keys c.self.inside.runners.items c.args.self.now c.self.invariant.0 c.self.view_is in omega (arith, size, c.requires))

pub given-requires : goal.given-requires
given-requires c =
    let size = size_run c.self.inside.rows c.self.inside.names.keys c.self.inside.runners.items c.args.self.now c.self.invariant.0 c.self.view_is in
    counted_at c.self.inside.rows c.self.inside.runners.items c.args.place c.index.result.now (omega (arith, size, c.requires)) c.index.ensures c.self.invariant.1

pub returns : goal.returns
returns c = λ d.
    c.given.ensures
    ∙ sym (ap (λ (x : ExecutorValue). x.given) (runs_as c.self.inside.rows c.self.inside.names.keys c.self.inside.runners.items c.args.self.now c.args.place c.index.result.now d c.self.invariant.0 c.self.view_is c.requires c.index.ensures))
