use Rattle.std.proofs.Common.{sym, subst, List, []}
use Rattle.exec_pool.specs.Extents.{IsGivenBack, IsLive}
use Rattle.exec_query.specs.Executor.{ExecutorValue}
use Rattle.exec_registry.specs.Live.{Live, named}
use Rattle.exec_registry.specs.Admitted.{IsDropped}
use Rattle.exec_registry.proofs.Admitting.{dropped}
use Rattle.exec_registry.proofs.register.drop_at.Goals as goal

pub close-requires : goal.close-requires
close-requires c =
    let l : Live = named [] c.take_out-executor.result in
    subst (λ (x : ExecutorValue). IsLive c.args.pool.now x.extent) (sym (c.take_out-executor.ensures.value l)) (c.requires.sound.kept c.args.place l c.requires.there).live

pub returns : goal.returns
returns c =
    let l : Live = named [] c.take_out-executor.result in
    subst (λ (after : List Live). IsDropped c.args.place c.args.pool.now c.args.live.now c.close.new.pool after) (sym c.take_out-executor.ensures.left)
    (dropped c.args.pool.now c.close.new.pool c.args.place c.args.live.now l c.requires.sound c.requires.there
    (subst (λ (x : ExecutorValue). IsGivenBack c.args.pool.now x.extent c.close.new.pool) (c.take_out-executor.ensures.value l) c.close.ensures))
