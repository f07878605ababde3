use Rattle.std.proofs.Common.{◌≡◌, ◌<◌, [], length, sym, ap, subst, slice_index_or}
use Rattle.exec_pool.specs.declared.pool.Extent.{Extent}
use Rattle.exec_pool.specs.Extents.{IsLive}
use Rattle.exec_query.specs.Executor as running
use Rattle.exec_query.specs.Executor.{ExecutorValue, with_given}
use Rattle.exec_registry.specs.Live.{Live, named}
use Rattle.exec_registry.specs.Registry.{RegistryValue}
use Rattle.exec_registry.proofs.registry.Registry.executor.Goals as goal

pub returns-clause-value : goal.returns-clause-value
returns-clause-value c = λ d.
    subst (λ (v : RegistryValue). (slice_index_or v.live c.args.place d).executor ≡ with_given c.executor_at.result.now (slice_index_or v.live c.args.place d).executor.given c.executor_at.result.now.table.entries) c.self.view_is
    (c.executor_at.ensures d)

pub returns-clause-live : goal.returns-clause-live
returns-clause-live c =
    let l : Live = named [] c.executor_at.result.now in
    let there = subst (λ (v : RegistryValue). c.args.place < length v.live) (sym c.self.view_is) c.requires in
    subst (λ (v : RegistryValue). IsLive v.pool c.executor_at.result.now.extent) c.self.view_is
    (subst (λ (e : Extent). IsLive c.self.inside.pool e) (ap (λ (x : ExecutorValue). x.extent) (c.executor_at.ensures l)) (c.self.invariant.0.kept c.args.place l there).live)

pub returns-clause-sound : goal.returns-clause-sound
returns-clause-sound c = λ d.
    let there = subst (λ (v : RegistryValue). c.args.place < length v.live) (sym c.self.view_is) c.requires in
    subst (λ (v : RegistryValue). running.IsSound (slice_index_or v.live c.args.place d).executor) c.self.view_is (c.self.invariant.0.sound c.args.place d there)
