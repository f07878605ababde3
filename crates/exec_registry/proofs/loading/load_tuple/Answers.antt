use Rattle.std.proofs.Common.{◌∙◌, ℕ, [], sym, ap, subst, arith, length, All, slice_set}
use Rattle.std.proofs.lemmas.List.{length-set}
use Rattle.sem_query.specs.Numbers.{parts_of}
use Rattle.exec_query.specs.Executor.{ExecutorValue}
use Rattle.exec_query.specs.Loading.{loaded_tuple}
use Rattle.exec_registry.specs.Live.{Live, named}
use Rattle.exec_registry.specs.Counted.{IsCounted, run_to}
use Rattle.exec_registry.proofs.Shown.{size_run, level_size, level_live, counted_at, all_set}
use Rattle.exec_registry.proofs.Loads.{loaded_run, run_there}
use Rattle.exec_registry.proofs.loading.load_tuple.Goals as goal

pub index_mut-requires : goal.index_mut-requires
index_mut-requires c =
    let same = level_size c.live.inside.rows c.live.inside.names.keys c.live.inside.runners.items c.level.new.runners.items c.live.invariant.0 c.level.ensures.shown in
    let is = level_live c.live.inside.rows c.live.inside.names.keys c.live.inside.runners.items c.level.new.runners.items c.args.live.now c.live.view_is c.level.ensures.shown in
    let size = size_run 0 c.live.inside.names.keys c.level.new.runners.items c.args.live.now same is in
    omega (arith, size, c.requires.there)

pub load_tuple_at-requires-clause-counted : goal.load_tuple_at-requires-clause-counted
load_tuple_at-requires-clause-counted c =
    let same = level_size c.live.inside.rows c.live.inside.names.keys c.live.inside.runners.items c.level.new.runners.items c.live.invariant.0 c.level.ensures.shown in
    let is = level_live c.live.inside.rows c.live.inside.names.keys c.live.inside.runners.items c.level.new.runners.items c.args.live.now c.live.view_is c.level.ensures.shown in
    let size = size_run 0 c.live.inside.names.keys c.level.new.runners.items c.args.live.now same is in
    counted_at 0 c.level.new.runners.items c.args.place c.index_mut.result.now (omega (arith, size, c.requires.there)) c.index_mut.ensures.value c.level.ensures.counted

pub load_tuple_at-requires-clause-width : goal.load_tuple_at-requires-clause-width
load_tuple_at-requires-clause-width c =
    let same = level_size c.live.inside.rows c.live.inside.names.keys c.live.inside.runners.items c.level.new.runners.items c.live.invariant.0 c.level.ensures.shown in
    let is = level_live c.live.inside.rows c.live.inside.names.keys c.live.inside.runners.items c.level.new.runners.items c.args.live.now c.live.view_is c.level.ensures.shown in
    let size = size_run 0 c.live.inside.names.keys c.level.new.runners.items c.args.live.now same is in
    let l : Live = named [] (run_to 0 c.index_mut.result.now) in
    let runs = run_there c.live.inside.names.keys c.level.new.runners.items c.args.live.now c.args.place c.index_mut.result.now l same is c.requires.there c.index_mut.ensures.value in
    c.requires.width l ∙ ap (λ (x : ExecutorValue). length x.query.select) runs

pub invariant_of-live : goal.invariant_of-live
invariant_of-live c =
    let same = level_size c.live.inside.rows c.live.inside.names.keys c.live.inside.runners.items c.level.new.runners.items c.live.invariant.0 c.level.ensures.shown in
    let is = level_live c.live.inside.rows c.live.inside.names.keys c.live.inside.runners.items c.level.new.runners.items c.args.live.now c.live.view_is c.level.ensures.shown in
    let size = size_run 0 c.live.inside.names.keys c.level.new.runners.items c.args.live.now same is in (
      same ∙ sym (length-set c.level.new.runners.items c.args.place c.load_tuple_at.new.runner),
      subst (λ (n : ℕ). All (IsCounted n) (slice_set c.level.new.runners.items c.args.place c.load_tuple_at.new.runner)) (sym c.level.ensures.rows) (all_set (IsCounted 0) c.level.new.runners.items c.args.place c.load_tuple_at.new.runner c.level.ensures.counted c.load_tuple_at.ensures.counted),
    )

pub returns : goal.returns
returns c =
    let same = level_size c.live.inside.rows c.live.inside.names.keys c.live.inside.runners.items c.level.new.runners.items c.live.invariant.0 c.level.ensures.shown in
    let is = level_live c.live.inside.rows c.live.inside.names.keys c.live.inside.runners.items c.level.new.runners.items c.args.live.now c.live.view_is c.level.ensures.shown in
    let size = size_run 0 c.live.inside.names.keys c.level.new.runners.items c.args.live.now same is in
    loaded_run c.args.place c.load_tuple_at.result 0 (λ q shared plan base. loaded_tuple q (parts_of plan) c.args.t.now.items base) c.level.new.rows c.live.inside.names.keys c.level.new.runners.items c.args.live.now c.index_mut.result.now c.load_tuple_at.new.runner same is c.requires.there c.index_mut.ensures.value c.level.ensures.rows c.load_tuple_at.ensures.loads
