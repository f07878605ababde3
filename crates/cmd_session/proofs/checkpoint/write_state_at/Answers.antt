use Rattle.std.proofs.Common.{◌≡◌, ◌∙◌, ℕ, sym, ap, subst, arith, slice_index_or}
use Rattle.io_streams.specs.Sink.{Writes}
use Rattle.exec_pool.specs.Extents.{PoolValue}
use Rattle.exec_query.specs.Executor.{ExecutorValue, list_in, with_given}
use Rattle.exec_registry.specs.Live.{Live, named}
use Rattle.exec_snapshot.specs.Lines.{text_of_lines}
use Rattle.cmd_session.specs.CheckpointLines.{live_lines}
use Rattle.cmd_session.proofs.LinesKept.{kept_announced}
use Rattle.cmd_session.proofs.checkpoint.write_state_at.Goals as goal

pub returns-clause-lines : goal.returns-clause-lines
returns-clause-lines g c = λ d.
    let l : Live = slice_index_or c.args.registry.now.live c.args.place d in
    let e : ExecutorValue = c.executor-executor.result.now in
    let name = sym (c.name.ensures d) in
    let runs : l.executor ≡ with_given e c.given.result e.table.entries = c.executor-executor.ensures.value d ∙ ap (λ (n : ℕ). with_given e n e.table.entries) (sym (c.given.ensures d)) in
    let is : l ≡ named c.name.result.now (with_given e c.given.result e.table.entries) = (λ j. named (name j) (runs j)) in
    subst (λ (p : PoolValue). Writes c.write_state.result (g.O.Sink.seen c.args.out.now) (g.O.Sink.seen c.write_state.new.out) (text_of_lines (live_lines p l))) c.pool.ensures
    (subst (λ (x : Live). Writes c.write_state.result (g.O.Sink.seen c.args.out.now) (g.O.Sink.seen c.write_state.new.out) (text_of_lines (live_lines c.pool.result.now x))) (sym is) c.write_state.ensures.lines)

pub returns-clause-reads : goal.returns-clause-reads
returns-clause-reads g c = λ d.
    let same = sym (ap (λ (x : ExecutorValue). list_in x) (c.executor-executor.ensures.value d)) in
    let e = kept_announced c.args.registry.now.live c.args.place d c.executor-executor.result.now c.plan-plan.result.now same (c.plan-plan.ensures.value d) (c.plan-plan.ensures.plan d) in
    omega (arith, e, c.write_state.ensures.reads)
