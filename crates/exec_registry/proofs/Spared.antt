-- Live queries that a row does not concern are passed over, and counted.
use Rattle.std.proofs.Common.{◌≡◌, ℕ, zero, suc, ◌+◌, ◌-◌, ◌%◌, ◌<◌, ◌≤◌, ◌^◌, List, [], ◌∷◌, length, map, take, refl, sym, ap, ◌∙◌, subst, arith, slice_index_or, slice_set, All}
use Rattle.std.specs.List.{sum_by}
use Rattle.std.proofs.lemmas.List.{length-map, get_or-map, set-get_or}
use Rattle.sem_query.specs.Meaning.{Arrival}
use Rattle.exec_pool.specs.Extents.{PoolValue}
use Rattle.exec_query.specs.Executor as executor
use Rattle.exec_query.specs.Executor.{ExecutorValue, waiting_in, with_given}
use Rattle.exec_filter.specs.Prefilter.{IsRefused}
use Rattle.exec_query.specs.Standing.{IsReady}
use Rattle.sem_query.specs.Domains.{RowKeeps}
use Rattle.exec_query.proofs.PartCells.{with_own}
use Rattle.exec_query.proofs.PassingOn.{refused-rows-pass}
use Rattle.exec_registry.specs.declared.queries.Runner.{Runner}
use Rattle.exec_registry.specs.Live.{Live, named}
use Rattle.exec_registry.specs.Counted.{run_to, shown, IsCounted}
use Rattle.exec_registry.specs.Registry.{KeepsToEach}
use Rattle.exec_registry.specs.RowByQuery.{TookOne, TookFirst}
use Rattle.exec_registry.proofs.SideBySide.{under, under_at, under_set}
use Rattle.exec_registry.proofs.InTurn.{took_more, next_ready, next_keeps, sum_more}

-- what runs the queries, of which the first so many took one row more
abbrev pub mixed : ℕ → ℕ → List Runner → List ExecutorValue
mixed rows zero rs = shown rows rs
mixed rows (suc n) [] = []
mixed rows (suc n) (r ∷ rs) = run_to (rows + 1) r ∷ mixed rows n rs

pub mixed_size : (rows n : ℕ) (rs : List Runner) → length (mixed rows n rs) ≡ length rs
mixed_size rows zero rs = length-map rs (run_to rows)
mixed_size rows (suc n) [] = refl
mixed_size rows (suc n) (r ∷ rs) = ap suc (mixed_size rows n rs)

pub mixed_at : (rows n : ℕ) (rs : List Runner) (i : ℕ) (e : ExecutorValue) (r : Runner) → n ≤ i → i < length rs
    → slice_index_or (mixed rows n rs) i e ≡ run_to rows (slice_index_or rs i r)
mixed_at rows n [] i e r a b = absurd (omega (arith, b))
mixed_at rows zero (x ∷ rs) zero e r a b = refl
mixed_at rows zero (x ∷ rs) (suc i) e r a b = mixed_at rows zero rs i e r (omega arith) (omega (arith, b))
mixed_at rows (suc n) (x ∷ rs) zero e r a b = absurd (omega (arith, a))
mixed_at rows (suc n) (x ∷ rs) (suc i) e r a b = mixed_at rows n rs i e r (omega (arith, a)) (omega (arith, b))

-- the next one took the row too
pub mixed_set : (rows n : ℕ) (rs : List Runner) (r : Runner) → n < length rs → slice_set (mixed rows n rs) n (run_to (rows + 1) r) ≡ mixed rows (suc n) (slice_set rs n r)
mixed_set rows n [] r a = absurd (omega (arith, a))
mixed_set rows zero (x ∷ rs) r a = refl
mixed_set rows (suc n) (x ∷ rs) r a = ap (λ es. run_to (rows + 1) x ∷ es) (mixed_set rows n rs r (omega (arith, a)))

-- all of them took it
pub mixed_all : (rows n : ℕ) (rs : List Runner) → length rs ≤ n → mixed rows n rs ≡ shown (rows + 1) rs
mixed_all rows zero [] a = refl
mixed_all rows (suc n) [] a = refl
mixed_all rows zero (r ∷ rs) a = absurd (omega (arith, a))
mixed_all rows (suc n) (r ∷ rs) a = ap (λ es. run_to (rows + 1) r ∷ es) (mixed_all rows n rs (omega (arith, a)))

-- so many rows are as many as a machine counts, where there is a query
pub wrapped : (rows : ℕ) (rs : List Runner) → (0 < length rs → rows + 1 < 2 ^ 64) → shown ((rows + 1) % 2 ^ 64) rs ≡ shown (rows + 1) rs
wrapped rows [] few = refl
wrapped rows (r ∷ rs) few = (let k = few (omega arith) in ap (λ n. shown n (r ∷ rs)) (let e : (rows + 1) % 2 ^ 64 ≡ rows + 1 = grind (arith, k) in e))

some_live : (xs : List Live) (n : ℕ) → n < length xs → Live
some_live [] n a = absurd (omega (arith, a))
some_live (x ∷ xs) n a = x

some_runner : (xs : List Runner) (n : ℕ) → n < length xs → Runner
some_runner [] n a = absurd (omega (arith, a))
some_runner (x ∷ xs) n a = x

-- a live query after one row more
abbrev one_more : Live → Live
one_more l = named l.name (with_given l.executor (l.executor.given + 1) l.executor.table.entries)

-- the live query at a place of such lists
pub live_there : (before : List Live) (rows n : ℕ) (rs : List Runner) (i : ℕ) (d : Live) (r : Runner) → length rs ≡ length before → n ≤ i → i < length rs
    → slice_index_or (under before (mixed rows n rs)) i d ≡ named (slice_index_or (map (λ (l : Live). l.name) before) i d.name) (run_to rows (slice_index_or rs i r))
live_there before rows n rs i d r size a b =
    under_at before (mixed rows n rs) i d (mixed_size rows n rs ∙ size)
    ∙ ap (λ (e : ExecutorValue). named (slice_index_or (map (λ (l : Live). l.name) before) i d.name) e) (mixed_at rows n rs i d.executor r a b)

-- one of them is put in that took the row
pub mixed_under : (before : List Live) (rows n : ℕ) (rs : List Runner) (d : Live) (r : Runner) → length rs ≡ length before → n < length rs
    → under before (mixed rows (suc n) (slice_set rs n r))
    ≡ slice_set (under before (mixed rows n rs)) n (named (slice_index_or (map (λ (l : Live). l.name) before) n d.name) (run_to (rows + 1) r))
mixed_under before rows n rs d r size a =
    let many = mixed_size rows n rs in
    ap (λ (es : List ExecutorValue). under before es) (sym (mixed_set rows n rs r a))
    ∙ under_set before (mixed rows n rs) n (run_to (rows + 1) r) d.name (many ∙ size) (omega (arith, many, a))

module _ (r : Arrival) (pool mid : PoolValue) (before : List Live) (rows : ℕ) (rs : List Runner) (size : length rs ≡ length before)
    (few : All (λ (l : Live). l.executor.given < 2 ^ 40) before) (keeps : KeepsToEach before r) where
  -- the next live query refuses the row
  skip_one : (n : ℕ) → TookFirst r n pool mid before (under before (mixed rows n rs)) → n < length before
      → ((l : Live) → IsRefused (slice_index_or before n l).executor.query (slice_index_or before n l).executor.plan r)
      → ((l : Live) → waiting_in (slice_index_or before n l).executor ≡ [])
      → TookFirst r (suc n) pool mid before (under before (mixed rows (suc n) rs))
  skip_one n t within refused quiet =
      let d : Live = some_live before n within in
      let there : n < length rs = omega (arith, within, size) in
      let ρ : Runner = some_runner rs n there in
      let now : List Live = under before (mixed rows n rs) in
      let l : Live = slice_index_or now n d in
      let same : l ≡ slice_index_or before n d = t.ready n d (omega arith) within in
      let here : n < length now = omega (arith, t.size, within) in
      let passed = refused-rows-pass l.executor mid r (t.sound.sound n d here) (next_ready r n pool mid before now d t within few) (next_keeps r n pool mid before now d t within keeps)
      (subst (λ (x : Live). waiting_in x.executor ≡ []) (sym same) (quiet d))
      (subst (λ (x : Live). IsRefused x.executor.query x.executor.plan r) (sym same) (refused d)) in
      let one : TookOne r mid mid l (one_more l) = record {
        name = refl;
        same = refl;
        only = with_own mid l.executor.extent (t.sound.kept n d here).live;
        sound = passed.sound;
        kept = passed.kept;
        within = passed.within;
        bases = passed.bases;
      } in
      let more : TookFirst r (suc n) pool mid before (slice_set now n (one_more l)) = took_more r n pool mid mid before now (one_more l) d t within one in
      let seen = live_there before rows n rs n d ρ size (omega arith) there in
      let own : Runner = slice_index_or rs n ρ in
      let count : (own.before + rows) + 1 ≡ own.before + (rows + 1) = omega arith in
      let is : one_more l ≡ named (slice_index_or (map (λ (x : Live). x.name) before) n d.name) (run_to (rows + 1) own)
      = ap one_more seen ∙ ap (λ (k : ℕ). named (slice_index_or (map (λ (x : Live). x.name) before) n d.name) (with_given own.executor k own.executor.table.entries)) count in
      let set : under before (mixed rows (suc n) rs) ≡ slice_set now n (one_more l)
      = ap (λ (xs : List Runner). under before (mixed rows (suc n) xs)) (sym (set-get_or rs n ρ)) ∙ mixed_under before rows n rs d own size there ∙ ap (λ (x : Live). slice_set now n x) (sym is) in
      subst (λ (xs : List Live). TookFirst r (suc n) pool mid before xs) (sym set) more

  -- so do some that follow
  pub skip_to : (k n m : ℕ) → n + k ≡ m → m ≤ length before → TookFirst r n pool mid before (under before (mixed rows n rs))
      → ((i : ℕ) (l : Live) → n ≤ i → i < m → IsRefused (slice_index_or before i l).executor.query (slice_index_or before i l).executor.plan r)
      → ((i : ℕ) (l : Live) → n ≤ i → i < m → waiting_in (slice_index_or before i l).executor ≡ [])
      → TookFirst r m pool mid before (under before (mixed rows m rs))
  skip_to zero n m e within t refused quiet = subst (λ (j : ℕ). TookFirst r j pool mid before (under before (mixed rows j rs))) (let same : n ≡ m = omega (arith, e) in same) t
  skip_to (suc k) n m e within t refused quiet =
      skip_to k (suc n) m (omega (arith, e)) within
      (skip_one n t (omega (arith, e, within)) (λ l. refused n l (omega arith) (omega (arith, e))) (λ l. quiet n l (omega arith) (omega (arith, e))))
      (λ i l a b. refused i l (omega (arith, a)) b) (λ i l a b. quiet i l (omega (arith, a)) b)

-- a sum over fewer is no more
pub sum_front : (f : Live → ℕ) (xs : List Live) (n k m : ℕ) → n + k ≡ m → m ≤ length xs → sum_by f (take n xs) ≤ sum_by f (take m xs)
sum_front f xs n zero m e within = (let at : n ≡ m = omega (arith, e) in let same = ap (λ (j : ℕ). sum_by f (take j xs)) at in omega (arith, same))
sum_front f xs n (suc k) m e within =
    let d : Live = some_live xs n (omega (arith, e, within)) in
    let one = sum_more f xs n d (omega (arith, e, within)) in
    let more = sum_front f xs (suc n) k m (omega (arith, e)) within in
    omega (arith, one, more)

-- one that took its row knows how many rows were given to it
run_is : (r : Arrival) (pool later : PoolValue) (rows : ℕ) (own new : Runner) (name : List ℕ) → new.before ≡ own.before
    → TookOne r pool later (named name (run_to rows own)) (named name new.executor) → run_to (rows + 1) new ≡ new.executor
run_is r pool later rows own new name same one =
    let given : new.executor.given ≡ (own.before + rows) + 1 = ap (λ (e : ExecutorValue). e.given) one.same in
    let count : new.before + (rows + 1) ≡ new.executor.given = omega (arith, given, same) in
    ap (λ (k : ℕ). with_given new.executor k new.executor.table.entries) count

module _ (r : Arrival) (pool mid : PoolValue) (before : List Live) (rows : ℕ) (rs : List Runner) (size : length rs ≡ length before)
    (few : All (λ (l : Live). l.executor.given < 2 ^ 40) before) (keeps : KeepsToEach before r)
    (next place : ℕ) (t : TookFirst r next pool mid before (under before (mixed rows next rs))) (le : next ≤ place) (within : place < length before)
    (refused : (i : ℕ) (l : Live) → next ≤ i → i < place → IsRefused (slice_index_or before i l).executor.query (slice_index_or before i l).executor.plan r)
    (quiet : (i : ℕ) (l : Live) → next ≤ i → i < place → waiting_in (slice_index_or before i l).executor ≡ []) where
  -- up to the place all took the row
  at_place : TookFirst r place pool mid before (under before (mixed rows place rs))
  at_place = skip_to r pool mid before rows rs size few keeps (place - next) next place (omega (arith, le)) (omega (arith, within)) t refused quiet

  there : place < length rs
  there = omega (arith, within, size)

  -- the one there can take it
  pub step_ready : (ρ : Runner) → IsReady (run_to rows (slice_index_or rs place ρ)) mid
  step_ready ρ =
      let d : Live = some_live before place within in
      subst (λ (l : Live). IsReady l.executor mid) (live_there before rows place rs place d ρ size (omega arith) there)
      (next_ready r place pool mid before (under before (mixed rows place rs)) d at_place within few)

  pub step_keeps : (ρ : Runner) → RowKeeps (slice_index_or rs place ρ).executor.query r
  step_keeps ρ =
      let d : Live = some_live before place within in
      subst (λ (l : Live). RowKeeps l.executor.query r) (live_there before rows place rs place d ρ size (omega arith) there)
      (next_keeps r place pool mid before (under before (mixed rows place rs)) d at_place within keeps)

  -- it asks by the plan that it had
  pub step_plan : (ρ : Runner) (d : Live) → (slice_index_or before place d).executor.plan ≡ (slice_index_or rs place ρ).executor.plan
  step_plan ρ d =
      ap (λ (l : Live). l.executor.plan) (sym (at_place.ready place d (omega arith) within) ∙ live_there before rows place rs place d ρ size (omega arith) there)

  -- and took it
  pub step_took : (later : PoolValue) (ρ new : Runner) → new.before ≡ (slice_index_or rs place ρ).before
      → ((name : List ℕ) → TookOne r mid later (named name (run_to rows (slice_index_or rs place ρ))) (named name new.executor))
      → TookFirst r (place + 1) pool later before (under before (mixed rows (place + 1) (slice_set rs place new)))
  step_took later ρ new same one =
      let d : Live = some_live before place within in
      let now : List Live = under before (mixed rows place rs) in
      let name : List ℕ = slice_index_or (map (λ (x : Live). x.name) before) place d.name in
      let l' : Live = named name new.executor in
      let seen = live_there before rows place rs place d ρ size (omega arith) there in
      let own = subst (λ (l : Live). TookOne r mid later l l') (sym seen) (one name) in
      let more : TookFirst r (suc place) pool later before (slice_set now place l') = took_more r place pool mid later before now l' d at_place within own in
      let is = run_is r mid later rows (slice_index_or rs place ρ) new name same (one name) in
      let set : under before (mixed rows (suc place) (slice_set rs place new)) ≡ slice_set now place l'
      = mixed_under before rows place rs d new size there ∙ ap (λ (e : ExecutorValue). slice_set now place (named name e)) is in
      let back : suc place ≡ place + 1 = omega arith in
      subst (λ (n : ℕ). TookFirst r n pool later before (under before (mixed rows n (slice_set rs place new)))) back
      (subst (λ (xs : List Live). TookFirst r (suc place) pool later before xs) (sym set) more)

-- of one that is not reached yet waits what did before
pub ahead_waits : (r : Arrival) (pool mid : PoolValue) (before : List Live) (rows : ℕ) (rs : List Runner) → length rs ≡ length before → (next : ℕ)
    → TookFirst r next pool mid before (under before (mixed rows next rs)) → (k : ℕ) (ρ : Runner) → next ≤ k → k < length rs
    → ((l : Live) → waiting_in (slice_index_or before k l).executor ≡ []) → waiting_in (slice_index_or rs k ρ).executor ≡ []
ahead_waits r pool mid before rows rs size next t k ρ a b none =
    let d : Live = some_live before k (omega (arith, b, size)) in
    sym (ap (λ (l : Live). waiting_in l.executor) (live_there before rows next rs k d ρ size a b))
    ∙ ap (λ (l : Live). waiting_in l.executor) (t.ready k d a (omega (arith, b, size))) ∙ none d

-- all took the row
pub all_took : (r : Arrival) (pool mid : PoolValue) (before : List Live) (rows : ℕ) (rs : List Runner) → length rs ≡ length before
    → All (λ (l : Live). l.executor.given < 2 ^ 40) before → KeepsToEach before r → (next : ℕ)
    → TookFirst r next pool mid before (under before (mixed rows next rs)) → next ≤ length before
    → ((i : ℕ) (l : Live) → next ≤ i → i < length before → IsRefused (slice_index_or before i l).executor.query (slice_index_or before i l).executor.plan r)
    → ((i : ℕ) (l : Live) → next ≤ i → i < length before → waiting_in (slice_index_or before i l).executor ≡ [])
    → TookFirst r (length before) pool mid before (under before (shown (rows + 1) rs))
all_took r pool mid before rows rs size few keeps next t le refused quiet =
    subst (λ (es : List ExecutorValue). TookFirst r (length before) pool mid before (under before es)) (mixed_all rows (length before) rs (omega (arith, size)))
    (skip_to r pool mid before rows rs size few keeps (length before - next) next (length before) (omega (arith, le)) (omega arith) t refused quiet)

-- each is counted then
pub all_counted : (r : Arrival) (pool mid : PoolValue) (before : List Live) (rows : ℕ) (rs : List Runner) → length rs ≡ length before → (n : ℕ)
    → TookFirst r n pool mid before (under before (shown (rows + 1) rs))
    → ((i : ℕ) (ρ : Runner) → i < length rs → (slice_index_or rs i ρ).executor.given ≤ (slice_index_or rs i ρ).before + (rows + 1))
    → All (IsCounted (rows + 1)) rs
all_counted r pool mid before rows rs size n t behind = λ i ρ a.
    (let d : Live = some_live before i (omega (arith, a, size)) in
    let e : ExecutorValue = run_to (rows + 1) ρ in
    let many = length-map rs (run_to (rows + 1)) in
    let own : Runner = slice_index_or rs i ρ in
    let seen : slice_index_or (under before (shown (rows + 1) rs)) i d ≡ named (slice_index_or (map (λ (l : Live). l.name) before) i d.name) (run_to (rows + 1) own)
    = under_at before (shown (rows + 1) rs) i d (many ∙ size)
    ∙ ap (λ (x : ExecutorValue). named (slice_index_or (map (λ (l : Live). l.name) before) i d.name) x) (get_or-map (run_to (rows + 1)) rs i ρ d.executor a) in
    let sound = subst (λ (l : Live). executor.IsSound l.executor) seen (t.sound.sound i d (let s = t.size in omega (arith, a, s, size))) in
    record { behind = behind i ρ a; few = sound.given })

-- no more rows were counted than a machine counts, where there is a query
pub few_rows : (rows : ℕ) (rs : List Runner) → All (IsCounted (rows + 1)) rs → 0 < length rs → rows + 1 < 2 ^ 64
few_rows rows [] all some = absurd (omega (arith, some))
few_rows rows (ρ ∷ rs) all some = (let few = (all 0 ρ (omega arith)).few in omega (arith, few))

pub wrapped_counted : (rows : ℕ) (rs : List Runner) → All (IsCounted (rows + 1)) rs → All (IsCounted ((rows + 1) % 2 ^ 64)) rs
wrapped_counted rows [] all = λ i ρ a. absurd (omega (arith, a))
wrapped_counted rows (x ∷ rs) all =
    (let k = few_rows rows (x ∷ rs) all (omega arith) in
    let e : (rows + 1) % 2 ^ 64 ≡ rows + 1 = grind (arith, k) in
    subst (λ (n : ℕ). All (IsCounted n) (x ∷ rs)) (sym e) all)

-- what waits of the one at a place waits of what runs it
pub shown_waits : (before : List Live) (rows : ℕ) (rs : List Runner) (k : ℕ) (d : Live) (ρ : Runner) → length rs ≡ length before → k < length rs
    → waiting_in (slice_index_or (under before (shown rows rs)) k d).executor ≡ waiting_in (slice_index_or rs k ρ).executor
shown_waits before rows rs k d ρ size a =
    ap (λ (l : Live). waiting_in l.executor) (under_at before (shown rows rs) k d (length-map rs (run_to rows) ∙ size))
    ∙ ap (λ (e : ExecutorValue). waiting_in e) (get_or-map (run_to rows) rs k ρ d.executor a)
