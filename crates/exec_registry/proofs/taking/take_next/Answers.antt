use Rattle.std.proofs.Common.{sym, subst}
use Rattle.exec_pool.specs.Extents.{IsLive}
use Rattle.exec_query.specs.Executor.{ExecutorValue, arrival}
use Rattle.exec_registry.specs.Live.{named}
use Rattle.exec_registry.specs.RowByQuery.{TookOne}
use Rattle.exec_registry.proofs.InTurn.{took_one}
use Rattle.exec_registry.proofs.taking.take_next.Goals as goal

pub returns-clause-taken : goal.returns-clause-taken
returns-clause-taken g c = λ name.
    let r = arrival c.args.stream c.args.row.now.items in
    let caught : ExecutorValue = c.pass.new.self in
    let live : IsLive c.args.pool.now caught.extent = subst (λ (e : ExecutorValue). IsLive c.args.pool.now e.extent) (sym c.pass.ensures) c.requires.ready.kept.live in
    subst (λ (e : ExecutorValue). TookOne r c.args.pool.now c.apply-waits.new.pool (named name e) (named name c.apply-waits.new.self)) c.pass.ensures
    (took_one r c.args.pool.now c.apply-waits.new.pool name caught c.apply-waits.new.self live c.apply-waits.ensures.took c.plan-sound.ensures.sound)
