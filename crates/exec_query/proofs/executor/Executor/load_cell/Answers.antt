use Rattle.std.proofs.Common.{◌≡◌, ◌+◌, ◌≤◌, min, cond, [], sym, ap, ◌∙◌, subst, arith, rules, w64, ℤ, Option, option_and_then, slice_set}
use Rattle.std.proofs.lemmas.Int.{to_z-of_z}
use Rattle.sem_query.specs.declared.cell.Cell.{Cell}
use Rattle.sem_query.specs.Sharing.{sizes_in}
use Rattle.sem_query.specs.Bases.{Base}
use Rattle.exec_pool.specs.Extents.{PoolValue, cells_of, with_cells, IsLive}
use Rattle.exec_pool.specs.Counted.{StepsValue}
use Rattle.exec_saturation.specs.declared.saturation.Saturation.{Saturation}
use Rattle.exec_query.specs.Executor.{ExecutorValue, list_in, with_saturation}
use Rattle.exec_query.specs.Standing.{AreKept, KeepsWithin}
use Rattle.exec_query.specs.Bases.{StandsFrom}
use Rattle.exec_restore.specs.Loadable.{kind_at, filled_cell}
use Rattle.exec_query.specs.Loading.{loaded_cell, Loads}
use Rattle.exec_query.proofs.Loadings.{Puts, within, cell-loads, cell-kept, cell-within, cell-some}
use Rattle.exec_query.proofs.PlanFacts.{serving_in, based_in}
use Rattle.exec_query.proofs.executor.Executor.load_cell.Goals as goal
use Rattle.exec_query.proofs.executor.Executor.load_cell.Goals.{in-Some, in-None}

pub cell_to_load-requires : goal.cell_to_load-requires
cell_to_load-requires g c =
    let e : ExecutorValue = record { query = c.self.inside.planned.query; shared = c.self.inside.shared; plan = c.self.inside.planned.plan; extent = c.self.inside.planned.extent; given = c.self.inside.given; table = c.self.inside.table; saturation = c.self.inside.saturation } in
    based_in e.shared e.query e.plan (serving_in e c.self.invariant.0)

pub fill-filled-requires-clause-within : goal.fill-filled-requires-clause-within
fill-filled-requires-clause-within g c =
    let e : ExecutorValue = record { query = c.self.inside.planned.query; shared = c.self.inside.shared; plan = c.self.inside.planned.plan; extent = c.self.inside.planned.extent; given = c.self.inside.given; table = c.self.inside.table; saturation = c.self.inside.saturation } in
    let live : IsLive c.args.pool.now e.extent = subst (λ (x : ExecutorValue). IsLive c.args.pool.now x.extent) (sym c.self.view_is) c.requires.live in
    let told : option_and_then (λ kind. filled_cell c.self.inside.given kind c.args.v) (kind_at (list_in e) c.args.i) ≡ c.cell_to_load.result
    = ap (λ (z : ℤ). option_and_then (λ kind. filled_cell c.self.inside.given kind z) (kind_at (list_in e) c.args.i)) (sym (to_z-of_z w64 c.args.v (search rules))) ∙ sym c.cell_to_load.ensures in
    within e c.self.invariant.0 c.args.pool.now live c.args.i c.args.v c.in-Some.cell (told ∙ c.in-Some.is)

pub returns-clause-loads : goal.returns-clause-loads
returns-clause-loads g c =
    let e : ExecutorValue = record { query = c.self.inside.planned.query; shared = c.self.inside.shared; plan = c.self.inside.planned.plan; extent = c.self.inside.planned.extent; given = c.self.inside.given; table = c.self.inside.table; saturation = c.self.inside.saturation } in
    let live : IsLive c.args.pool.now e.extent = subst (λ (x : ExecutorValue). IsLive c.args.pool.now x.extent) (sym c.self.view_is) c.requires.live in
    let told : option_and_then (λ kind. filled_cell c.self.inside.given kind c.args.v) (kind_at (list_in e) c.args.i) ≡ c.cell_to_load.result
    = ap (λ (z : ℤ). option_and_then (λ kind. filled_cell c.self.inside.given kind z) (kind_at (list_in e) c.args.i)) (sym (to_z-of_z w64 c.args.v (search rules))) ∙ sym c.cell_to_load.ensures in
    let result = c.match-cell_to_load.filled in
    let later : ExecutorValue = with_saturation e c.after_load-self-inside.result in
    let after : PoolValue = c.match-cell_to_load.pool in
    let puts : Option Cell → Type 0 = λ o. Puts e c.self.invariant.0 c.args.pool.now live c.args.i c.args.v o result after in
    let put : puts c.cell_to_load.result = elim c.match-cell_to_load.branch [
      | in-Some w ↦ subst puts (sym w.in-Some.is) (w.filled-is ∙ w.fill-filled.ensures.value, w.pool-is ∙ w.fill-filled.ensures.pool ∙ ap (λ b. cond b (with_cells c.args.pool.now e.extent (slice_set (cells_of c.args.pool.now e.extent) c.args.i w.in-Some.cell)) c.args.pool.now) (sym w.filled-is))
      | in-None w ↦ subst puts (sym w.in-None.is) (w.filled-is, w.pool-is)
    ] in
    subst (λ (x : ExecutorValue). (base : Base) → StandsFrom x c.args.pool.now base [] → Loads result (loaded_cell (list_in x) c.args.i c.args.v base) x c.args.pool.now later after) c.self.view_is
    (subst (λ (s : Saturation). (base : Base) → StandsFrom e c.args.pool.now base [] → Loads result (loaded_cell (list_in e) c.args.i c.args.v base) e c.args.pool.now (with_saturation e s) after) (sym c.after_load-self-inside.ensures)
    (cell-loads e c.self.invariant.0 c.args.pool.now live c.args.i c.args.v c.cell_to_load.result result after told put))

pub returns-clause-kept : goal.returns-clause-kept
returns-clause-kept g c =
    let e : ExecutorValue = record { query = c.self.inside.planned.query; shared = c.self.inside.shared; plan = c.self.inside.planned.plan; extent = c.self.inside.planned.extent; given = c.self.inside.given; table = c.self.inside.table; saturation = c.self.inside.saturation } in
    let live : IsLive c.args.pool.now e.extent = subst (λ (x : ExecutorValue). IsLive c.args.pool.now x.extent) (sym c.self.view_is) c.requires.live in
    let told : option_and_then (λ kind. filled_cell c.self.inside.given kind c.args.v) (kind_at (list_in e) c.args.i) ≡ c.cell_to_load.result
    = ap (λ (z : ℤ). option_and_then (λ kind. filled_cell c.self.inside.given kind z) (kind_at (list_in e) c.args.i)) (sym (to_z-of_z w64 c.args.v (search rules))) ∙ sym c.cell_to_load.ensures in
    let result = c.match-cell_to_load.filled in
    let later : ExecutorValue = with_saturation e c.after_load-self-inside.result in
    let after : PoolValue = c.match-cell_to_load.pool in
    let puts : Option Cell → Type 0 = λ o. Puts e c.self.invariant.0 c.args.pool.now live c.args.i c.args.v o result after in
    let put : puts c.cell_to_load.result = elim c.match-cell_to_load.branch [
      | in-Some w ↦ subst puts (sym w.in-Some.is) (w.filled-is ∙ w.fill-filled.ensures.value, w.pool-is ∙ w.fill-filled.ensures.pool ∙ ap (λ b. cond b (with_cells c.args.pool.now e.extent (slice_set (cells_of c.args.pool.now e.extent) c.args.i w.in-Some.cell)) c.args.pool.now) (sym w.filled-is))
      | in-None w ↦ subst puts (sym w.in-None.is) (w.filled-is, w.pool-is)
    ] in
    subst (λ (x : ExecutorValue). AreKept x c.args.pool.now → AreKept later after) c.self.view_is
    (subst (λ (s : Saturation). AreKept e c.args.pool.now → AreKept (with_saturation e s) after) (sym c.after_load-self-inside.ensures)
    (cell-kept e c.self.invariant.0 c.args.pool.now live c.args.i c.args.v c.cell_to_load.result result after told put))

pub returns-clause-within : goal.returns-clause-within
returns-clause-within g c =
    let e : ExecutorValue = record { query = c.self.inside.planned.query; shared = c.self.inside.shared; plan = c.self.inside.planned.plan; extent = c.self.inside.planned.extent; given = c.self.inside.given; table = c.self.inside.table; saturation = c.self.inside.saturation } in
    let live : IsLive c.args.pool.now e.extent = subst (λ (x : ExecutorValue). IsLive c.args.pool.now x.extent) (sym c.self.view_is) c.requires.live in
    let told : option_and_then (λ kind. filled_cell c.self.inside.given kind c.args.v) (kind_at (list_in e) c.args.i) ≡ c.cell_to_load.result
    = ap (λ (z : ℤ). option_and_then (λ kind. filled_cell c.self.inside.given kind z) (kind_at (list_in e) c.args.i)) (sym (to_z-of_z w64 c.args.v (search rules))) ∙ sym c.cell_to_load.ensures in
    let result = c.match-cell_to_load.filled in
    let later : ExecutorValue = with_saturation e c.after_load-self-inside.result in
    let after : PoolValue = c.match-cell_to_load.pool in
    let puts : Option Cell → Type 0 = λ o. Puts e c.self.invariant.0 c.args.pool.now live c.args.i c.args.v o result after in
    let put : puts c.cell_to_load.result = elim c.match-cell_to_load.branch [
      | in-Some w ↦ subst puts (sym w.in-Some.is) (w.filled-is ∙ w.fill-filled.ensures.value, w.pool-is ∙ w.fill-filled.ensures.pool ∙ ap (λ b. cond b (with_cells c.args.pool.now e.extent (slice_set (cells_of c.args.pool.now e.extent) c.args.i w.in-Some.cell)) c.args.pool.now) (sym w.filled-is))
      | in-None w ↦ subst puts (sym w.in-None.is) (w.filled-is, w.pool-is)
    ] in
    subst (λ (x : ExecutorValue). KeepsWithin x c.args.pool.now → KeepsWithin later after) c.self.view_is
    (subst (λ (s : Saturation). KeepsWithin e c.args.pool.now → KeepsWithin (with_saturation e s) after) (sym c.after_load-self-inside.ensures)
    (cell-within e c.self.invariant.0 c.args.pool.now live c.args.i c.args.v c.cell_to_load.result result after told put))

pub returns-clause-reads : goal.returns-clause-reads
returns-clause-reads g c =
    let e : ExecutorValue = record { query = c.self.inside.planned.query; shared = c.self.inside.shared; plan = c.self.inside.planned.plan; extent = c.self.inside.planned.extent; given = c.self.inside.given; table = c.self.inside.table; saturation = c.self.inside.saturation } in
    let live : IsLive c.args.pool.now e.extent = subst (λ (x : ExecutorValue). IsLive c.args.pool.now x.extent) (sym c.self.view_is) c.requires.live in
    let told : option_and_then (λ kind. filled_cell c.self.inside.given kind c.args.v) (kind_at (list_in e) c.args.i) ≡ c.cell_to_load.result
    = ap (λ (z : ℤ). option_and_then (λ kind. filled_cell c.self.inside.given kind z) (kind_at (list_in e) c.args.i)) (sym (to_z-of_z w64 c.args.v (search rules))) ∙ sym c.cell_to_load.ensures in
    subst (λ (x : ExecutorValue). c.match-cell_to_load.steps.reads ≤ c.args.steps.now.reads + min 1 (sizes_in (list_in x))) c.self.view_is (elim c.match-cell_to_load.branch [
      | in-Some w ↦ (
          let some = cell-some e c.self.invariant.0 c.args.pool.now live c.args.i c.args.v w.in-Some.cell (told ∙ w.in-Some.is) in
          let r = ap (λ (s : StepsValue). s.reads) w.steps-is in
          let f = w.fill-filled.ensures.reads in omega (arith, some, r, f))
      | in-None w ↦ (let r = ap (λ (s : StepsValue). s.reads) w.steps-is in omega (arith, r))
    ])

pub returns-clause-writes : goal.returns-clause-writes
returns-clause-writes g c =
    let e : ExecutorValue = record { query = c.self.inside.planned.query; shared = c.self.inside.shared; plan = c.self.inside.planned.plan; extent = c.self.inside.planned.extent; given = c.self.inside.given; table = c.self.inside.table; saturation = c.self.inside.saturation } in
    let live : IsLive c.args.pool.now e.extent = subst (λ (x : ExecutorValue). IsLive c.args.pool.now x.extent) (sym c.self.view_is) c.requires.live in
    let told : option_and_then (λ kind. filled_cell c.self.inside.given kind c.args.v) (kind_at (list_in e) c.args.i) ≡ c.cell_to_load.result
    = ap (λ (z : ℤ). option_and_then (λ kind. filled_cell c.self.inside.given kind z) (kind_at (list_in e) c.args.i)) (sym (to_z-of_z w64 c.args.v (search rules))) ∙ sym c.cell_to_load.ensures in
    subst (λ (x : ExecutorValue). c.match-cell_to_load.steps.writes ≤ c.args.steps.now.writes + min 1 (sizes_in (list_in x))) c.self.view_is (elim c.match-cell_to_load.branch [
      | in-Some w ↦ (
          let some = cell-some e c.self.invariant.0 c.args.pool.now live c.args.i c.args.v w.in-Some.cell (told ∙ w.in-Some.is) in
          let r = ap (λ (s : StepsValue). s.writes) w.steps-is in
          let f = w.fill-filled.ensures.writes in omega (arith, some, r, f))
      | in-None w ↦ (let r = ap (λ (s : StepsValue). s.writes) w.steps-is in omega (arith, r))
    ])
