use Rattle.std.proofs.Common.{◌∙◌, ℕ, sym, subst, arith, All, slice_set}
use Rattle.std.proofs.lemmas.List.{length-set}
use Rattle.exec_query.specs.Loading.{loaded_given}
use Rattle.exec_registry.specs.Counted.{IsCounted}
use Rattle.exec_registry.proofs.Shown.{size_run, level_size, level_live, counted_at, all_set}
use Rattle.exec_registry.proofs.Loads.{loaded_run}
use Rattle.exec_registry.proofs.loading.load_given.Goals as goal

pub index_mut-requires : goal.index_mut-requires
index_mut-requires c =
    let same = level_size c.live.inside.rows c.live.inside.names.keys c.live.inside.runners.items c.level.new.runners.items c.live.invariant.0 c.level.ensures.shown in
    let is = level_live c.live.inside.rows c.live.inside.names.keys c.live.inside.runners.items c.level.new.runners.items c.args.live.now c.live.view_is c.level.ensures.shown in
    let size = size_run 0 c.live.inside.names.keys c.level.new.runners.items c.args.live.now same is in
    omega (arith, size, c.requires.there)

pub load_given_at-requires-clause-counted : goal.load_given_at-requires-clause-counted
load_given_at-requires-clause-counted c =
    let same = level_size c.live.inside.rows c.live.inside.names.keys c.live.inside.runners.items c.level.new.runners.items c.live.invariant.0 c.level.ensures.shown in
    let is = level_live c.live.inside.rows c.live.inside.names.keys c.live.inside.runners.items c.level.new.runners.items c.args.live.now c.live.view_is c.level.ensures.shown in
    let size = size_run 0 c.live.inside.names.keys c.level.new.runners.items c.args.live.now same is in
    counted_at 0 c.level.new.runners.items c.args.place c.index_mut.result.now (omega (arith, size, c.requires.there)) c.index_mut.ensures.value c.level.ensures.counted

pub invariant_of-live : goal.invariant_of-live
invariant_of-live c =
    let same = level_size c.live.inside.rows c.live.inside.names.keys c.live.inside.runners.items c.level.new.runners.items c.live.invariant.0 c.level.ensures.shown in
    let is = level_live c.live.inside.rows c.live.inside.names.keys c.live.inside.runners.items c.level.new.runners.items c.args.live.now c.live.view_is c.level.ensures.shown in
    let size = size_run 0 c.live.inside.names.keys c.level.new.runners.items c.args.live.now same is in (
      same ∙ sym (length-set c.level.new.runners.items c.args.place c.load_given_at.new.runner),
      subst (λ (n : ℕ). All (IsCounted n) (slice_set c.level.new.runners.items c.args.place c.load_given_at.new.runner)) (sym c.level.ensures.rows) (all_set (IsCounted 0) c.level.new.runners.items c.args.place c.load_given_at.new.runner c.level.ensures.counted c.load_given_at.ensures.counted),
    )

pub returns : goal.returns
returns c =
    let same = level_size c.live.inside.rows c.live.inside.names.keys c.live.inside.runners.items c.level.new.runners.items c.live.invariant.0 c.level.ensures.shown in
    let is = level_live c.live.inside.rows c.live.inside.names.keys c.live.inside.runners.items c.level.new.runners.items c.args.live.now c.live.view_is c.level.ensures.shown in
    let size = size_run 0 c.live.inside.names.keys c.level.new.runners.items c.args.live.now same is in
    loaded_run c.args.place c.load_given_at.result c.args.n (λ q shared plan base. loaded_given c.args.n base) c.level.new.rows c.live.inside.names.keys c.level.new.runners.items c.args.live.now c.index_mut.result.now c.load_given_at.new.runner same is c.requires.there c.index_mut.ensures.value c.level.ensures.rows c.load_given_at.ensures.loads
