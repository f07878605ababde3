-- The live queries after one of them was loaded.
use Rattle.std.proofs.Common.{◌≡◌, ℕ, ◌+◌, ◌<◌, ◌≤◌, inl, inr, min, Bool, true, false, Option, Some, None, List, [], length, map, refl, sym, ap, ◌∙◌, subst, arith, slice_get, slice_index_or, slice_set, All}
use Rattle.std.specs.Int.{bit_at}
use Rattle.std.proofs.lemmas.Bool.{cases_eq}
use Rattle.std.proofs.lemmas.List.{length-set, get_or-set_same, get_or-set_other, get_or_default, set-get_or}
use Rattle.std.proofs.lemmas.List.Sums.{get_or-le-sum_by}
use Rattle.std.proofs.lemmas.Option.{slice_get_within, get_or_from_slice_get}
use Rattle.std.proofs.Math.Seq.{map-set_same}
use Rattle.sem_query.specs.declared.plan.Plan.{Plan}
use Rattle.sem_query.specs.declared.plan.Plan.TheVariants as plans
use Rattle.sem_query.specs.declared.plan.Numbers.{Numbers}
use Rattle.sem_query.specs.declared.plan.PartPlan.{PartPlan}
use Rattle.sem_query.specs.Query.{QueryValue}
use Rattle.sem_query.specs.Meaning.{Arrival}
use Rattle.sem_query.specs.Numbers.{parts_of}
use Rattle.sem_query.specs.Sharing.{kept_boxes, sizes_in, numbers_for}
use Rattle.sem_query.specs.Bases.{Base}
use Rattle.sem_laws.proofs.PlanBoxes.{count-of-boxes}
use Rattle.sem_forms.specs.Forms.{IsFormPlanOf}
use Rattle.exec_pool.specs.Extents.{PoolValue, cells_of, with_cells}
use Rattle.exec_query.specs.Executor as executor
use Rattle.exec_saturation.specs.declared.saturation.Saturation.{Saturation}
use Rattle.exec_query.specs.Executor.{ExecutorValue, list_in, waiting_in, with_given, with_saturation}
use Rattle.exec_query.specs.Bases.{StandsFrom}
use Rattle.exec_query.specs.Loading.{Loads}
use Rattle.exec_registry.specs.Live.{Live, LiveQuery, named, live_of, plan_cells, with_base}
use Rattle.exec_registry.specs.Registry.{RegistryValue, IsSound, IsLiveFor, AreLiveFor, AsksTheSame, KeepQueries, most_cells}
use Rattle.exec_registry.specs.Waiting.{AreQuiet}
use Rattle.exec_registry.specs.Loaded.{LoadsThere, LoadsAt, Loading, loaded_by, LoadedOne, LoadedAlone, LoadedAt, LoadedAloneAt}
use Rattle.exec_registry.proofs.Beside.{live_for_same}
use Rattle.exec_registry.specs.declared.queries.Runner.{Runner}
use Rattle.exec_registry.specs.Counted.{run_to, shown}
use Rattle.exec_registry.proofs.Shown.{sized, size_run, runs_as, run_stands, shown_set}
use Rattle.exec_registry.proofs.SideBySide.{size_as, live_in, live_set}
use Rattle.exec_registry.proofs.InTurn.{put, beside_set, set_sound}

no_boxes : (shared : Bool) (q : QueryValue) → sizes_in (kept_boxes shared q []) ≡ 0
no_boxes false q = refl
no_boxes true q = refl

same_cells : (shared : Bool) (q : QueryValue) (list : List PartPlan) → (numbers_for shared q list).cells ≡ sizes_in (kept_boxes shared q list)
same_cells false q list = count-of-boxes list
same_cells true q list = refl

-- the boxes have as many cells as the plan announces
cells_announced : (shared : Bool) (q : QueryValue) (p : Plan) → IsFormPlanOf shared q p → sizes_in (kept_boxes shared q (parts_of p)) ≡ plan_cells p
cells_announced shared q plans.Filter is = no_boxes shared q
cells_announced shared q (plans.Parts list numbers) is = sym (ap (λ (n : Numbers). n.cells) is.2 ∙ same_cells shared q list)

-- one cell at most, and none where none is announced
pub one_cell : (e : ExecutorValue) (m n : ℕ) → executor.IsSound e → n ≤ m + min 1 (sizes_in (list_in e)) → n ≤ m + plan_cells e.plan
one_cell e m n s l = (let same = cells_announced e.shared e.query e.plan s.accepted.plan in omega (arith, same, l))

-- an executor of which only the saturation changed
pub saturated_as : (e later : ExecutorValue) (s : Saturation) → later ≡ with_saturation e s
    → later ≡ with_saturation (with_given e later.given later.table.entries) later.saturation
saturated_as e later s is = is ∙ ap (λ (x : ExecutorValue). with_saturation (with_given e x.given x.table.entries) x.saturation) (sym is)

-- what one plan announces is no more than what all do
pub cells_of_all : (live : List Live) (place : ℕ) (d : Live) (e : ExecutorValue) (m n : ℕ) → place < length live → e ≡ (slice_index_or live place d).executor → n ≤ m + plan_cells e.plan → n ≤ m + most_cells live
cells_of_all live place d e m n within is l =
    let same : plan_cells e.plan ≡ plan_cells (slice_index_or live place d).executor.plan = ap (λ (x : ExecutorValue). plan_cells x.plan) is in
    let most = get_or-le-sum_by (λ (x : Live). plan_cells x.executor.plan) live place d within in
    omega (arith, same, most, l)

-- what runs the live query at a place was loaded
pub loaded_here : (place : ℕ) (result : Bool) (n : ℕ) (load : Loading) (pool later : PoolValue) (names : List (List ℕ)) (executors : List ExecutorValue) (live : List Live) (e e' : ExecutorValue)
    → length names ≡ length executors → live_of names executors ≡ live → place < length live → e ≡ slice_index_or executors place e
    → ((name : List ℕ) → LoadedOne result n load pool later (named name e) (named name e'))
    → LoadedAt place result n load pool later live (live_of names (slice_set executors place e'))
loaded_here place result n load pool later names executors live e e' same is within at h =
    let size = size_as names executors live same is in
    let name : List ℕ = slice_index_or names place [] in
    record {
      live = named name e';
      loaded = λ l. subst (λ (x : Live). LoadedOne result n load pool later x (named name e'))
          (sym (live_in names executors live place [] e l same is within ∙ ap (λ (x : ExecutorValue). named name x) (sym at))) (h name);
      set = live_set names executors place e' [] same (omega (arith, size, within)) ∙ ap (λ (ls : List Live). slice_set ls place (named name e')) is;
    }

-- so it was without a look at its cells
pub loaded_alone : (place : ℕ) (result : Bool) (n : ℕ) (load : Loading) (names : List (List ℕ)) (executors : List ExecutorValue) (live : List Live) (e e' : ExecutorValue)
    → length names ≡ length executors → live_of names executors ≡ live → place < length live → e ≡ slice_index_or executors place e
    → LoadedAlone result n load e e' → LoadedAloneAt place result n load live (live_of names (slice_set executors place e'))
loaded_alone place result n load names executors live e e' same is within at h =
    record { each = λ pool. loaded_here place result n load pool pool names executors live e e' same is within at (λ name. h.each name pool) }

-- so it is of runners, of which no row was counted
run_after : (rows : ℕ) (names : List (List ℕ)) (rs : List Runner) (place : ℕ) (ρ' : Runner) → rows ≡ 0
    → live_of names (slice_set (shown 0 rs) place (run_to 0 ρ')) ≡ live_of names (shown rows (slice_set rs place ρ'))
run_after rows names rs place ρ' none =
    ap (λ (es : List ExecutorValue). live_of names es) (sym (shown_set 0 rs place ρ') ∙ ap (λ (n : ℕ). shown n (slice_set rs place ρ')) (sym none))

pub loaded_run : (place : ℕ) (result : Bool) (n : ℕ) (load : Loading) (rows : ℕ) (names : List (List ℕ)) (rs : List Runner) (live : List Live) (ρ ρ' : Runner)
    → length names ≡ length rs → live_of names (shown 0 rs) ≡ live → place < length live → ρ ≡ slice_index_or rs place ρ → rows ≡ 0
    → LoadedAlone result n load (run_to 0 ρ) (run_to 0 ρ') → LoadedAloneAt place result n load live (live_of names (shown rows (slice_set rs place ρ')))
loaded_run place result n load rows names rs live ρ ρ' same is within at none h =
    let size = size_run 0 names rs live same is in
    subst (λ (after : List Live). LoadedAloneAt place result n load live after) (run_after rows names rs place ρ' none)
    (loaded_alone place result n load names (shown 0 rs) live (run_to 0 ρ) (run_to 0 ρ') (sized 0 names rs same) is within (run_stands 0 rs place ρ (omega (arith, size, within)) at) h)

pub loaded_run_here : (place : ℕ) (result : Bool) (n : ℕ) (load : Loading) (pool later : PoolValue) (rows : ℕ) (names : List (List ℕ)) (rs : List Runner) (live : List Live) (ρ ρ' : Runner)
    → length names ≡ length rs → live_of names (shown 0 rs) ≡ live → place < length live → ρ ≡ slice_index_or rs place ρ → rows ≡ 0
    → ((name : List ℕ) → LoadedOne result n load pool later (named name (run_to 0 ρ)) (named name (run_to 0 ρ')))
    → LoadedAt place result n load pool later live (live_of names (shown rows (slice_set rs place ρ')))
loaded_run_here place result n load pool later rows names rs live ρ ρ' same is within at none h =
    let size = size_run 0 names rs live same is in
    subst (λ (after : List Live). LoadedAt place result n load pool later live after) (run_after rows names rs place ρ' none)
    (loaded_here place result n load pool later names (shown 0 rs) live (run_to 0 ρ) (run_to 0 ρ') (sized 0 names rs same) is within (run_stands 0 rs place ρ (omega (arith, size, within)) at) h)

-- the runner at a place runs the live query there
pub run_there : (names : List (List ℕ)) (rs : List Runner) (live : List Live) (place : ℕ) (ρ : Runner) (d : Live)
    → length names ≡ length rs → live_of names (shown 0 rs) ≡ live → place < length live → ρ ≡ slice_index_or rs place ρ
    → (slice_index_or live place d).executor ≡ run_to 0 ρ
run_there names rs live place ρ d same is within at = runs_as 0 names rs live place ρ d same is within at

module _ (place : ℕ) (result : Bool) (n : ℕ) (load : Loading) (pool later : PoolValue) (before after : List Live) (sound : IsSound pool before) (within : place < length before)
    (w : LoadedAt place result n load pool later before after) where
  abbrev l' : Live
  l' = w.live

  abbrev l : Live
  l = slice_index_or before place l'

  one : LoadedOne result n load pool later l l'
  one = w.loaded l'

  only : later ≡ with_cells pool l.executor.extent (cells_of later l.executor.extent)
  only = one.only (sound.kept place l' within).live

  size : length (slice_set before place l') ≡ length before
  size = length-set before place l'

  -- all is sound
  pub loaded_sound : IsSound later after
  loaded_sound =
      subst (λ (xs : List Live). IsSound later xs) (sym w.set)
      (set_sound pool later before place l' l' sound within (ap (λ (x : ExecutorValue). x.extent) one.same) only (one.sound (sound.sound place l' within))
      (one.within (sound.within place l' within)) (one.kept (sound.kept place l' within)))

  -- there are as many pages
  pub loaded_pages : later.pages ≡ pool.pages
  loaded_pages = ap (λ (p : PoolValue). p.pages) only

  -- what holds of each live query holds of each, where it goes on to hold of this one
  loaded_all : (P : Live → Type 0) → (P l → P l') → All P before → All P after
  loaded_all P step all =
      subst (λ (xs : List Live). All P xs) (sym w.set) (λ k c a. put P before place k c l' within (λ e. step (all place l' within)) (λ ne. all k c (omega (arith, a, size))))

  pub loaded_quiet : All (λ (x : Live). waiting_in x.executor ≡ []) before → All (λ (x : Live). waiting_in x.executor ≡ []) after
  loaded_quiet all = loaded_all (λ (x : Live). waiting_in x.executor ≡ []) one.quiet all

  pub loaded_upto : (m : ℕ) → n ≤ m → All (λ (x : Live). x.executor.given ≤ m) before → All (λ (x : Live). x.executor.given ≤ m) after
  loaded_upto m more all = loaded_all (λ (x : Live). x.executor.given ≤ m) (one.given m more) all

  pub loaded_names : map (λ (x : Live). x.name) after ≡ map (λ (x : Live). x.name) before
  loaded_names = ap (λ (xs : List Live). map (λ (x : Live). x.name) xs) w.set ∙ map-set_same (λ (x : Live). x.name) before place l' l' one.name

  pub loaded_keep : KeepQueries before after
  loaded_keep =
      subst (λ (xs : List Live). KeepQueries before xs) (sym w.set) (λ i c a. (
        i,
        omega (arith, a, size),
        put (λ (x : Live). AsksTheSame x (slice_index_or before i c)) before place i c l' within
            (λ e. subst (λ (x : Live). AsksTheSame l' x) (get_or_default before place l' c within ∙ ap (λ j. slice_index_or before j c) (sym e))
            (record { name = one.name; query = ap (λ (x : ExecutorValue). x.query) one.same; shared = ap (λ (x : ExecutorValue). x.shared) one.same }))
            (λ ne. record { name = refl; query = refl; shared = refl }),
      ))

  -- nothing comes to wait
  pub loaded_silent : (p : ℕ) → AreQuiet p before → AreQuiet p after
  loaded_silent p q = subst (λ (xs : List Live). AreQuiet p xs) (sym w.set) (record {
    only = λ k on. (let f = q.only k on in omega (arith, f, size));
    quiet = λ i c b off. put (λ (x : Live). waiting_in x.executor ≡ []) before place i c l' within
        (λ e. one.quiet (q.quiet place l' within (subst (λ j. bit_at p j ≡ 0) e off)))
        (λ ne. q.quiet i c (omega (arith, b, size)) off);
  })

  module _ (queries : List LiveQuery) (live : LiveQuery) (all : AreLiveFor pool before queries) (there : slice_get queries place ≡ Some live) (fresh : live.history ≡ []) where
    here : place < length queries
    here = slice_get_within queries place live there

    own : IsLiveFor pool l live
    own = subst (λ (q : LiveQuery). IsLiveFor pool l q) (get_or_from_slice_get queries place live live there) (all.each place l' live within)

    did : Loads result (loaded_by load live) l.executor pool l'.executor later
    did =
        subst (λ (o : Option Base). Loads result o l.executor pool l'.executor later) (λ j. load (own.query j) (own.shared j) (own.plan j) live.base)
        (one.loads live.base (subst (λ (h : List Arrival). StandsFrom l.executor pool live.base h) fresh own.stands))

    stands_by : (o : Option Base) → Loads result o l.executor pool l'.executor later
        → LoadsThere result o live place queries (record { pool = pool; live = before }) (record { pool = later; live = after })
    stands_by None d =
        let as_was : after ≡ before = w.set ∙ ap (λ (x : Live). slice_set before place x) (λ j. named (one.name j) (d.1 j)) ∙ set-get_or before place l' in
        (d.0, (λ j. let r : RegistryValue = record { pool = d.2 j; live = as_was j } in r))
    stands_by (Some base) d =
        let new : LiveQuery = with_base base live in
        let put_in : IsLiveFor later l' new = record {
          name = one.name ∙ own.name;
          query = ap (λ (x : ExecutorValue). x.query) one.same ∙ own.query;
          shared = ap (λ (x : ExecutorValue). x.shared) one.same ∙ own.shared;
          plan = ap (λ (x : ExecutorValue). x.plan) one.same ∙ own.plan;
          stands = subst (λ (h : List Arrival). StandsFrom l'.executor later base h) (sym fresh) d.1;
        } in (
          d.0,
          subst (λ (xs : List Live). AreLiveFor later xs (slice_set queries place new)) (sym w.set) (record {
            size = size ∙ all.size ∙ sym (length-set queries place new);
            each = λ i c q a. elim (cases_eq i place) [
              | inl e ↦
                  subst (λ k. IsLiveFor later (slice_index_or (slice_set before place l') k c) (slice_index_or (slice_set queries place new) k q)) (sym e)
                  (subst (λ (x : Live). IsLiveFor later x (slice_index_or (slice_set queries place new) place q)) (sym (get_or-set_same before place l' c within))
                  (subst (λ (x : LiveQuery). IsLiveFor later l' x) (sym (get_or-set_same queries place new q here)) put_in))
              | inr ne ↦
                  subst (λ (x : Live). IsLiveFor later x (slice_index_or (slice_set queries place new) i q)) (sym (get_or-set_other before place i l' c ne))
                  (subst (λ (x : LiveQuery). IsLiveFor later (slice_index_or before i c) x) (sym (get_or-set_other queries place i new q ne))
                  (live_for_same (slice_index_or before i c) (slice_index_or queries i q) pool later
                  (beside_set pool later before place l' sound within only i c (omega (arith, a, size)) ne) (all.each i c q (omega (arith, a, size)))))
            ];
          }),
        )

  -- this live query goes on from the base that came of it, and the others stand for what they stood for
  pub loaded_stands : LoadsAt result place (loaded_by load) (record { pool = pool; live = before }) (record { pool = later; live = after })
  loaded_stands queries live all there fresh = stands_by queries live all there fresh (loaded_by load live) (did queries live all there fresh)
