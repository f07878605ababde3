use Rattle.std.proofs.Common.{◌≡◌, ◌∙◌, ℕ, ℤ, List, [], sym, subst, arith, to_z, of_z, w64, rules, All, slice_set}
use Rattle.std.proofs.lemmas.Int.{to_z-of_z}
use Rattle.std.proofs.lemmas.List.{length-set}
use Rattle.exec_pool.specs.Extents.{IsLive}
use Rattle.exec_query.specs.Executor.{ExecutorValue}
use Rattle.exec_query.specs.Loading.{loaded_cell}
use Rattle.exec_registry.specs.Live.{Live, named, boxes_for}
use Rattle.exec_registry.specs.Counted.{IsCounted, run_to}
use Rattle.exec_registry.specs.Loaded.{LoadedOne}
use Rattle.exec_registry.proofs.Shown.{size_run, level_size, level_live, counted_at, all_set}
use Rattle.exec_registry.proofs.Loads.{loaded_run_here, run_there, cells_of_all}
use Rattle.exec_registry.proofs.loading.load_cell.Goals as goal

pub index_mut-requires : goal.index_mut-requires
index_mut-requires g c =
    let same = level_size c.live.inside.rows c.live.inside.names.keys c.live.inside.runners.items c.level.new.runners.items c.live.invariant.0 c.level.ensures.shown in
    let is = level_live c.live.inside.rows c.live.inside.names.keys c.live.inside.runners.items c.level.new.runners.items c.args.live.now c.live.view_is c.level.ensures.shown in
    let size = size_run 0 c.live.inside.names.keys c.level.new.runners.items c.args.live.now same is in
    omega (arith, size, c.requires.there)

pub load_cell_at-requires-clause-counted : goal.load_cell_at-requires-clause-counted
load_cell_at-requires-clause-counted g c =
    let same = level_size c.live.inside.rows c.live.inside.names.keys c.live.inside.runners.items c.level.new.runners.items c.live.invariant.0 c.level.ensures.shown in
    let is = level_live c.live.inside.rows c.live.inside.names.keys c.live.inside.runners.items c.level.new.runners.items c.args.live.now c.live.view_is c.level.ensures.shown in
    let size = size_run 0 c.live.inside.names.keys c.level.new.runners.items c.args.live.now same is in
    counted_at 0 c.level.new.runners.items c.args.place c.index_mut.result.now (omega (arith, size, c.requires.there)) c.index_mut.ensures.value c.level.ensures.counted

pub load_cell_at-requires-clause-live : goal.load_cell_at-requires-clause-live
load_cell_at-requires-clause-live g c =
    let same = level_size c.live.inside.rows c.live.inside.names.keys c.live.inside.runners.items c.level.new.runners.items c.live.invariant.0 c.level.ensures.shown in
    let is = level_live c.live.inside.rows c.live.inside.names.keys c.live.inside.runners.items c.level.new.runners.items c.args.live.now c.live.view_is c.level.ensures.shown in
    let size = size_run 0 c.live.inside.names.keys c.level.new.runners.items c.args.live.now same is in
    let l : Live = named [] (run_to 0 c.index_mut.result.now) in
    let runs = run_there c.live.inside.names.keys c.level.new.runners.items c.args.live.now c.args.place c.index_mut.result.now l same is c.requires.there c.index_mut.ensures.value in
    subst (λ (x : ExecutorValue). IsLive c.args.pool.now x.extent) runs (c.requires.sound.kept c.args.place l c.requires.there).live

pub invariant_of-live : goal.invariant_of-live
invariant_of-live g c =
    let same = level_size c.live.inside.rows c.live.inside.names.keys c.live.inside.runners.items c.level.new.runners.items c.live.invariant.0 c.level.ensures.shown in
    let is = level_live c.live.inside.rows c.live.inside.names.keys c.live.inside.runners.items c.level.new.runners.items c.args.live.now c.live.view_is c.level.ensures.shown in
    let size = size_run 0 c.live.inside.names.keys c.level.new.runners.items c.args.live.now same is in (
      same ∙ sym (length-set c.level.new.runners.items c.args.place c.load_cell_at.new.runner),
      subst (λ (n : ℕ). All (IsCounted n) (slice_set c.level.new.runners.items c.args.place c.load_cell_at.new.runner)) (sym c.level.ensures.rows) (all_set (IsCounted 0) c.level.new.runners.items c.args.place c.load_cell_at.new.runner c.level.ensures.counted c.load_cell_at.ensures.counted),
    )

pub returns-clause-loads : goal.returns-clause-loads
returns-clause-loads g c =
    let same = level_size c.live.inside.rows c.live.inside.names.keys c.live.inside.runners.items c.level.new.runners.items c.live.invariant.0 c.level.ensures.shown in
    let is = level_live c.live.inside.rows c.live.inside.names.keys c.live.inside.runners.items c.level.new.runners.items c.args.live.now c.live.view_is c.level.ensures.shown in
    let size = size_run 0 c.live.inside.names.keys c.level.new.runners.items c.args.live.now same is in
    let v : to_z w64 (of_z w64 c.args.v) ≡ c.args.v = to_z-of_z w64 c.args.v (search rules) in
    let did = subst (λ (z : ℤ). (name : List ℕ) → LoadedOne c.load_cell_at.result 0 (λ q shared plan base. loaded_cell (boxes_for q shared plan) c.args.i z base) c.args.pool.now c.load_cell_at.new.pool (named name (run_to 0 c.index_mut.result.now)) (named name (run_to 0 c.load_cell_at.new.runner))) v c.load_cell_at.ensures.loads in
    loaded_run_here c.args.place c.load_cell_at.result 0 (λ q shared plan base. loaded_cell (boxes_for q shared plan) c.args.i c.args.v base) c.args.pool.now c.load_cell_at.new.pool c.level.new.rows c.live.inside.names.keys c.level.new.runners.items c.args.live.now
    c.index_mut.result.now c.load_cell_at.new.runner same is c.requires.there c.index_mut.ensures.value c.level.ensures.rows did

pub returns-clause-reads : goal.returns-clause-reads
returns-clause-reads g c =
    let same = level_size c.live.inside.rows c.live.inside.names.keys c.live.inside.runners.items c.level.new.runners.items c.live.invariant.0 c.level.ensures.shown in
    let is = level_live c.live.inside.rows c.live.inside.names.keys c.live.inside.runners.items c.level.new.runners.items c.args.live.now c.live.view_is c.level.ensures.shown in
    let size = size_run 0 c.live.inside.names.keys c.level.new.runners.items c.args.live.now same is in
    let l : Live = named [] (run_to 0 c.index_mut.result.now) in
    let runs = run_there c.live.inside.names.keys c.level.new.runners.items c.args.live.now c.args.place c.index_mut.result.now l same is c.requires.there c.index_mut.ensures.value in
    cells_of_all c.args.live.now c.args.place l (run_to 0 c.index_mut.result.now) c.args.steps.now.reads c.load_cell_at.new.steps.reads c.requires.there (sym runs) c.load_cell_at.ensures.reads

pub returns-clause-writes : goal.returns-clause-writes
returns-clause-writes g c =
    let same = level_size c.live.inside.rows c.live.inside.names.keys c.live.inside.runners.items c.level.new.runners.items c.live.invariant.0 c.level.ensures.shown in
    let is = level_live c.live.inside.rows c.live.inside.names.keys c.live.inside.runners.items c.level.new.runners.items c.args.live.now c.live.view_is c.level.ensures.shown in
    let size = size_run 0 c.live.inside.names.keys c.level.new.runners.items c.args.live.now same is in
    let l : Live = named [] (run_to 0 c.index_mut.result.now) in
    let runs = run_there c.live.inside.names.keys c.level.new.runners.items c.args.live.now c.args.place c.index_mut.result.now l same is c.requires.there c.index_mut.ensures.value in
    cells_of_all c.args.live.now c.args.place l (run_to 0 c.index_mut.result.now) c.args.steps.now.writes c.load_cell_at.new.steps.writes c.requires.there (sym runs) c.load_cell_at.ensures.writes
