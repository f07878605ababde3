use Rattle.std.proofs.Common.{◌+◌, sym, subst}
use Rattle.sem_query.specs.Domains.{RowKeeps}
use Rattle.exec_filter.specs.PlainFilter.{IsPlainFilter}
use Rattle.exec_query.specs.Executor.{ExecutorValue, arrival}
use Rattle.exec_query.specs.Standing.{IsReady}
use Rattle.exec_query.specs.Row.{TakesRow}
use Rattle.exec_query.proofs.AccessPaths.{filter-plain}
use Rattle.exec_query.proofs.PlainRows.{plain_taken}
use Rattle.exec_query.proofs.executor.Executor.apply.Goals as goal

pub returns-in-Filter-clause-took : goal.returns-in-Filter-clause-took
returns-in-Filter-clause-took g c =
    let e : ExecutorValue = record { query = c.self.inside.planned.query; shared = c.self.inside.shared; plan = c.self.inside.planned.plan; extent = c.self.inside.planned.extent; given = c.self.inside.given; table = c.self.inside.table; saturation = c.self.inside.saturation } in
    let ready : IsReady e c.args.pool.now = subst (λ (x : ExecutorValue). IsReady x c.args.pool.now) (sym c.self.view_is) c.requires.ready in
    let r = arrival c.args.stream c.args.row.now.items in
    let keeps : RowKeeps e.query r = subst (λ (x : ExecutorValue). RowKeeps x.query r) (sym c.self.view_is) c.requires.keeps in
    let is : IsPlainFilter e.query e.plan c.self.inside.prefilter c.in-Filter.filter
    = filter-plain e.query e.plan c.self.inside.prefilter c.self.inside.access c.in-Filter.filter c.in-Filter.is c.self.invariant.3 in
    subst (λ (x : ExecutorValue). TakesRow x c.args.pool.now r (let o : ExecutorValue = record { query = c.self.inside.planned.query; shared = c.self.inside.shared; plan = c.self.inside.planned.plan; extent = c.self.inside.planned.extent; given = c.self.inside.given + 1; table = c.plain_filter_row.new.table; saturation = c.self.inside.saturation } in o) c.args.pool.now) c.self.view_is
    (plain_taken e c.self.invariant.0 c.args.pool.now ready r c.self.inside.prefilter c.in-Filter.filter c.self.invariant.2 is c.plain_filter_row.result c.plain_filter_row.ensures.meets c.plain_filter_row.new.table c.plain_filter_row.ensures.table keeps)
