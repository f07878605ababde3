use Rattle.std.proofs.Common.{sym, ◌∙◌}
use Rattle.exec_query.specs.Executor.{ExecutorValue}
use Rattle.exec_query.proofs.Loadings.{given-kept}
use Rattle.exec_query.proofs.executor.Executor.load_given.Goals as goal

pub returns-clause-kept : goal.returns-clause-kept
returns-clause-kept c pool k =
    let e : ExecutorValue = record { query = c.self.inside.planned.query; shared = c.self.inside.shared; plan = c.self.inside.planned.plan; extent = c.self.inside.planned.extent; given = c.self.inside.given; table = c.self.inside.table; saturation = c.self.inside.saturation } in
    given-kept e c.args.self.now c.self.view_is c.args.n pool (sym c.is_new.ensures ∙ c.if-not-is_new.false) k
