-- Rows that are counted as given to each live query, and nothing else.
use Rattle.std.proofs.Common.{◌≡◌, ◌≢◌, ℕ, ◌+◌, ◌%◌, ◌<◌, ◌≤◌, ◌^◌, List, [], ◌∷◌, length, map, refl, sym, ap, ◌∙◌, subst, arith, slice_index_or, All}
use Rattle.std.specs.List.{sum_by}
use Rattle.std.proofs.lemmas.List.{length-map, get_or-map}
use Rattle.std.proofs.lemmas.List.Sums.{sum_by-cons}
use Rattle.sem_query.specs.declared.cell.Cell.{Cell}
use Rattle.sem_query.specs.Meaning.{Arrival}
use Rattle.exec_pool.specs.Extents.{PoolValue}
use Rattle.exec_query.specs.Executor as executor
use Rattle.exec_query.specs.Executor.{ExecutorValue, arrival, waiting_in, with_given}
use Rattle.exec_query.specs.Standing.{AreKept, CountsUpto, KeepsWithin}
use Rattle.exec_query.specs.Passing.{Passed}
use Rattle.exec_query.proofs.PartCells.{with_own}
use Rattle.exec_query.proofs.PassingOn.{counted-sound, refused-rows-pass}
use Rattle.exec_filter.specs.Prefilter.{IsRefused}
use Rattle.exec_registry.specs.declared.queries.Runner.{Runner}
use Rattle.exec_registry.specs.Concerned.{SparesStream}
use Rattle.exec_registry.specs.Counted.{run_to, shown, IsCounted}
use Rattle.exec_registry.specs.Live.{Live, LiveQuery, answers_of, live_of, named, with_row}
use Rattle.exec_registry.specs.Passed.{SparedRowsPass, given_more, passed}
use Rattle.exec_registry.specs.Registry.{RegistryValue, IsSound, IsLiveFor, IsQuiet, GivenUpto, KeepQueries, AsksTheSame}
use Rattle.exec_registry.specs.RowByQuery.{TookOne}
use Rattle.exec_registry.specs.Waiting.{AreQuiet}
use Rattle.exec_registry.proofs.InTurn.{took_here}
use Rattle.exec_registry.proofs.Shown.{size_run, run_at}

-- One live query.

counts_more : (m n : ℕ) (c : Cell) → m ≤ n → CountsUpto m c → CountsUpto n c
counts_more m n Cell.Empty le h = tt
counts_more m n (Cell.Count k) le h = omega (arith, le, h)
counts_more m n Cell.Present le h = tt
counts_more m n (Cell.Extreme z) le h = tt

-- the cells that are kept of it count no more than the rows that were given
kept_more : (n : ℕ) (pool : PoolValue) (l : Live) → AreKept l.executor pool → AreKept (given_more n l).executor pool
kept_more n pool l k = record {
  live = k.live;
  fitting = k.fitting;
  counts = λ part known place i a b. counts_more l.executor.given (l.executor.given + n) _ (omega arith) (k.counts part known place i a b);
  saturated = k.saturated;
}

within_more : (n : ℕ) (pool : PoolValue) (l : Live) → KeepsWithin l.executor pool → KeepsWithin (given_more n l).executor pool
within_more n pool l k = record { live = k.live; pages = k.pages; rest = k.rest; room = k.room; entries = k.entries; ascends = k.ascends }

-- All of them.

pub more_at : (n : ℕ) (live : List Live) (i : ℕ) (l : Live) → i < length live → slice_index_or (map (given_more n) live) i l ≡ given_more n (slice_index_or live i l)
more_at n live i l a = get_or-map (given_more n) live i l l a

-- what is true of each with more rows is true of all of them
more_all : (P Q : Live → Type 0) (n : ℕ) (live : List Live) → ((l : Live) → P l → Q (given_more n l)) → All P live → All Q (map (given_more n) live)
more_all P Q n live one all i l a =
    let size = length-map live (given_more n) in
    let within : i < length live = omega (arith, a, size) in
    subst Q (sym (more_at n live i l within)) (one (slice_index_or live i l) (all i l within))

pages_same : (n : ℕ) (live : List Live) → sum_by (λ (l : Live). l.executor.extent.pages) (map (given_more n) live) ≡ sum_by (λ (l : Live). l.executor.extent.pages) live
pages_same n [] = refl
pages_same n (l ∷ live) =
    let f : Live → ℕ = λ (x : Live). x.executor.extent.pages in
    sum_by-cons f (given_more n l) (map (given_more n) live) ∙ ap (λ k. f l + k) (pages_same n live) ∙ sym (sum_by-cons f l live)

pub passed_sound : (n : ℕ) (r : RegistryValue) → IsSound r.pool r.live → All (λ (l : Live). l.executor.given + n ≤ 2 ^ 40) r.live → IsSound r.pool (map (given_more n) r.live)
passed_sound n r s few =
    let size = length-map r.live (given_more n) in
    record {
      few = omega (arith, size, s.few);
      slots = s.slots;
      count = s.count ∙ sym size;
      free = ap (λ k. r.pool.free + k) (pages_same n r.live) ∙ s.free;
      sound = more_all (λ (l : Live). executor.IsSound l.executor × (l.executor.given + n ≤ 2 ^ 40)) (λ (l : Live). executor.IsSound l.executor) n r.live
          (λ l h. counted-sound l.executor (l.executor.given + n) h.1 h.0) (λ i l a. (s.sound i l a, few i l a));
      within = more_all (λ (l : Live). KeepsWithin l.executor r.pool) (λ (l : Live). KeepsWithin l.executor r.pool) n r.live (within_more n r.pool) s.within;
      kept = more_all (λ (l : Live). AreKept l.executor r.pool) (λ (l : Live). AreKept l.executor r.pool) n r.live (kept_more n r.pool) s.kept;
      apart = λ i j l a b.
          (let second : j < length r.live = omega (arith, b, size) in
          let one : i < length r.live = omega (arith, a, second) in
          subst (λ (x : Live). x.executor.extent.slot ≢ (slice_index_or (map (given_more n) r.live) j l).executor.extent.slot) (sym (more_at n r.live i l one))
          (subst (λ (x : Live). (slice_index_or r.live i l).executor.extent.slot ≢ x.executor.extent.slot) (sym (more_at n r.live j l second)) (s.apart i j l a second)));
    }

passed_quiet : (n : ℕ) (r : RegistryValue) → IsQuiet r → IsQuiet (passed n r)
passed_quiet n r quiet = more_all (λ (l : Live). waiting_in l.executor ≡ []) (λ (l : Live). waiting_in l.executor ≡ []) n r.live (λ l h. h) quiet

pub quiet_more : (n word : ℕ) (live : List Live) → AreQuiet word live → AreQuiet word (map (given_more n) live)
quiet_more n word live q =
    let size = length-map live (given_more n) in
    record {
      only = λ k on. (let f = q.only k on in omega (arith, f, size));
      quiet = λ k l a off.
          (let within : k < length live = omega (arith, a, size) in
          ap (λ (x : Live). waiting_in x.executor) (more_at n live k l within) ∙ q.quiet k l within off);
    }

pub passed_given : (n m : ℕ) (r : RegistryValue) → GivenUpto m r → GivenUpto (m + n) (passed n r)
passed_given n m r given = more_all (λ (l : Live). l.executor.given ≤ m) (λ (l : Live). l.executor.given ≤ m + n) n r.live (λ l h. omega (arith, h)) given

pub passed_keep : (n : ℕ) (r : RegistryValue) → KeepQueries r.live (passed n r).live
passed_keep n r i l a =
    let size = length-map r.live (given_more n) in
    let within : i < length r.live = omega (arith, a, size) in
    (i, within, subst (λ (x : Live). AsksTheSame x (slice_index_or r.live i l)) (sym (more_at n r.live i l within)) (record { name = refl; query = refl; shared = refl }))

pub passed_spares : (n stream : ℕ) (r : RegistryValue) → SparesStream stream r.live → SparesStream stream (passed n r).live
passed_spares n stream r spares k l a values =
    let size = length-map r.live (given_more n) in
    let within : k < length r.live = omega (arith, a, size) in
    subst (λ (x : Live). IsRefused x.executor.query x.executor.plan (arrival stream values)) (sym (more_at n r.live k l within)) (spares k l within values)

-- Numbers of rows.

live_none : (live : List Live) → map (given_more 0) live ≡ live
live_none [] = refl
live_none (l ∷ live) =
    let same : l.executor.given + 0 ≡ l.executor.given = omega arith in
    let first : given_more 0 l ≡ l = ap (λ (k : ℕ). named l.name (with_given l.executor k l.executor.table.entries)) same in
    (λ j. first j ∷ live_none live j)

pub passed_none : (r : RegistryValue) → passed 0 r ≡ r
passed_none r = ap (λ (live : List Live). let x : RegistryValue = record { pool = r.pool; live = live } in x) (live_none r.live)

live_more : (n m : ℕ) (live : List Live) → map (given_more (n + m)) live ≡ map (given_more m) (map (given_more n) live)
live_more n m [] = refl
live_more n m (l ∷ live) =
    let same : l.executor.given + (n + m) ≡ (l.executor.given + n) + m = omega arith in
    let first : given_more (n + m) l ≡ given_more m (given_more n l) = ap (λ (k : ℕ). named l.name (with_given l.executor k l.executor.table.entries)) same in
    (λ j. first j ∷ live_more n m live j)

pub passed_more : (n m : ℕ) (r : RegistryValue) → passed (n + m) r ≡ passed m (passed n r)
passed_more n m r = ap (λ (live : List Live). let x : RegistryValue = record { pool = r.pool; live = live } in x) (live_more n m r.live)

-- What runs them.

shown_more : (rows n : ℕ) (names : List (List ℕ)) (rs : List Runner) → live_of names (shown (rows + n) rs) ≡ map (given_more n) (live_of names (shown rows rs))
shown_more rows n [] rs = refl
shown_more rows n (name ∷ names) [] = refl
shown_more rows n (name ∷ names) (r ∷ rs) =
    let count : r.before + (rows + n) ≡ (r.before + rows) + n = omega arith in
    let first : named name (run_to (rows + n) r) ≡ given_more n (named name (run_to rows r)) = ap (λ (k : ℕ). named name (with_given r.executor k r.executor.table.entries)) count in
    (λ j. first j ∷ shown_more rows n names rs j)

module _ (rows n after : ℕ) (names : List (List ℕ)) (rs : List Runner) (live : List Live) (same : length names ≡ length rs) (view : live_of names (shown rows rs) ≡ live)
    (few : All (λ (l : Live). l.executor.given + n ≤ 2 ^ 40) live) (is : after ≡ (rows + n) % 2 ^ 64) where
  -- there is room for the rows
  room : (i : ℕ) (r : Runner) → i < length rs → (slice_index_or rs i r).before + rows + n ≤ 2 ^ 40
  room i r a =
      let size = size_run rows names rs live same view in
      let within : i < length live = omega (arith, a, size) in
      let d : Live = named [] r.executor in
      let given : (slice_index_or live i d).executor.given ≡ (slice_index_or rs i r).before + rows = ap (λ (l : Live). l.executor.given) (run_at rows names rs live i [] r d same view within) in
      let most = few i d within in
      omega (arith, given, most)

  -- where there is a query, no more rows were counted than a machine counts
  counted : (i : ℕ) (r : Runner) → i < length rs → after ≡ rows + n
  counted i r a = (let k = room i r a in let few : rows + n < 2 ^ 64 = omega (arith, k) in let e : (rows + n) % 2 ^ 64 ≡ rows + n = grind (arith, few) in is ∙ e)

  pub pass_counted : All (IsCounted rows) rs → All (IsCounted after) rs
  pass_counted all i r a =
      let was = all i r a in
      let k = room i r a in
      let e = counted i r a in
      let behind = was.behind in
      record { behind = omega (arith, behind, e); few = omega (arith, k, e) }

  pub pass_view : live_of names (shown after rs) ≡ map (given_more n) live
  pass_view = ap (λ (es : List ExecutorValue). live_of names es) (by rs counted) ∙ shown_more rows n names rs ∙ ap (map (given_more n)) view
    where
      by : (xs : List Runner) → ((i : ℕ) (r : Runner) → i < length xs → after ≡ rows + n) → shown after xs ≡ shown (rows + n) xs
      by [] h = refl
      by (x ∷ xs) h = ap (λ (k : ℕ). shown k (x ∷ xs)) (h 0 x (omega arith))

-- A row of a spared stream.

some_live : (live : List Live) (i : ℕ) → i < length live → Live
some_live [] i a = absurd (omega (arith, a))
some_live (l ∷ live) i a = l

-- a live query that refuses a row takes it by counting it
took_refused : (r : Arrival) (pool : PoolValue) (l : Live) → AreKept l.executor pool → Passed l.executor pool r (given_more 1 l).executor → TookOne r pool pool l (given_more 1 l)
took_refused r pool l kept p = record {
  name = refl;
  same = refl;
  only = with_own pool l.executor.extent kept.live;
  sound = p.sound;
  kept = p.kept;
  within = p.within;
  bases = p.bases;
}

pub spared_rows_pass : SparedRowsPass
spared_rows_pass r stream values sound few quiet spares keeps =
    let row : Arrival = arrival stream values in
    let size = length-map r.live (given_more 1) in
    let took : (i : ℕ) (l : Live) (q : LiveQuery) → i < length r.live → IsLiveFor r.pool (slice_index_or r.live i l) q
    → IsLiveFor r.pool (given_more 1 (slice_index_or r.live i l)) (with_row row q) × (waiting_in (slice_index_or r.live i l).executor ≡ answers_of row q)
    = λ i l q a h.
    (let own : Live = slice_index_or r.live i l in
    took_here row r.pool r.pool own (given_more 1 own) q
    (took_refused row r.pool own (sound.kept i l a)
    (refused-rows-pass own.executor r.pool row (sound.sound i l a) (record { kept = sound.kept i l a; few = few i l a }) (keeps i l a) (quiet i l a) (spares i l a values)))
    h) in
    record {
      quiet = passed_quiet 1 r quiet;
      stands = λ queries all. record {
        size = size ∙ all.size ∙ sym (length-map queries (with_row row));
        each = λ i l q a.
            (let within : i < length r.live = omega (arith, a, size) in
            let count = all.size in
            subst (λ (x : Live). IsLiveFor r.pool x (slice_index_or (map (with_row row) queries) i q)) (sym (more_at 1 r.live i l within))
            (subst (λ (x : LiveQuery). IsLiveFor r.pool (given_more 1 (slice_index_or r.live i l)) x) (sym (get_or-map (with_row row) queries i q q (omega (arith, within, count))))
            (took i l (slice_index_or queries i q) within (all.each i l q within)).0));
      };
      none = λ queries all i q a.
          (let count = all.size in
          let within : i < length r.live = omega (arith, a, count) in
          let l : Live = some_live r.live i within in
          sym (took i l (slice_index_or queries i q) within (all.each i l q within)).1 ∙ quiet i l within);
    }
