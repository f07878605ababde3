-- What runs the live queries, by the rows that were counted.
use Rattle.std.proofs.Common.{◌≡◌, ℕ, zero, suc, ◌+◌, ◌<◌, List, [], ◌∷◌, ◌++◌, length, refl, sym, ap, ◌∙◌, subst, arith, slice_index_or, slice_set, All}
use Rattle.std.specs.List.{remove}
use Rattle.std.proofs.lemmas.List.{length-map, get_or-map}
use Rattle.exec_query.specs.Executor.{ExecutorValue, with_given}
use Rattle.exec_registry.specs.declared.queries.Runner.{Runner}
use Rattle.exec_registry.specs.Live.{Live, named, live_of}
use Rattle.exec_registry.specs.Counted.{run_to, shown, IsCounted}
use Rattle.exec_registry.proofs.SideBySide.{live_in, size_as}

-- as many as there are of them
pub sized : (rows : ℕ) (names : List (List ℕ)) (rs : List Runner) → length names ≡ length rs → length names ≡ length (shown rows rs)
sized rows names rs e = e ∙ sym (length-map rs (run_to rows))

pub size_run : (rows : ℕ) (names : List (List ℕ)) (rs : List Runner) (live : List Live) → length names ≡ length rs → live_of names (shown rows rs) ≡ live → length rs ≡ length live
size_run rows names rs live e is = sym (length-map rs (run_to rows)) ∙ size_as names (shown rows rs) live (sized rows names rs e) is

-- what runs the live query at a place
pub run_at : (rows : ℕ) (names : List (List ℕ)) (rs : List Runner) (live : List Live) (i : ℕ) (name : List ℕ) (r : Runner) (l : Live)
    → length names ≡ length rs → live_of names (shown rows rs) ≡ live → i < length live
    → slice_index_or live i l ≡ named (slice_index_or names i name) (run_to rows (slice_index_or rs i r))
run_at rows names rs live i name r l e is within =
    let size = size_run rows names rs live e is in
    live_in names (shown rows rs) live i name (run_to rows r) l (sized rows names rs e) is within
    ∙ ap (λ (x : ExecutorValue). named (slice_index_or names i name) x) (get_or-map (run_to rows) rs i r (run_to rows r) (omega (arith, size, within)))

-- a list with another one at a place
pub shown_set : (rows : ℕ) (rs : List Runner) (i : ℕ) (r : Runner) → shown rows (slice_set rs i r) ≡ slice_set (shown rows rs) i (run_to rows r)
shown_set rows [] i r = refl
shown_set rows (x ∷ rs) zero r = refl
shown_set rows (x ∷ rs) (suc i) r = ap (λ es. run_to rows x ∷ es) (shown_set rows rs i r)

-- what runs the live query at a place, but for its number of rows
pub runs_as : (rows : ℕ) (names : List (List ℕ)) (rs : List Runner) (live : List Live) (i : ℕ) (r : Runner) (d : Live)
    → length names ≡ length rs → live_of names (shown rows rs) ≡ live → i < length live → r ≡ slice_index_or rs i r
    → (slice_index_or live i d).executor ≡ run_to rows r
runs_as rows names rs live i r d e is within at =
    ap (λ (l : Live). l.executor) (run_at rows names rs live i [] r d e is within) ∙ ap (run_to rows) (sym at)

-- rows that were counted for a query are given before
pub record WasCounted (rows : ℕ) (old new : Runner) : Type 0 where
  pub executor : new.executor ≡ old.executor
  pub before : new.before ≡ old.before + rows

-- so nothing else is shown
pub shown_level : (rows : ℕ) (old new : List Runner) → length new ≡ length old → ((i : ℕ) (r : Runner) → i < length old → WasCounted rows (slice_index_or old i r) (slice_index_or new i r))
    → shown 0 new ≡ shown rows old
shown_level rows [] [] size h = refl
shown_level rows [] (n ∷ ns) size h = absurd (omega (arith, size))
shown_level rows (o ∷ os) [] size h = absurd (omega (arith, size))
shown_level rows (o ∷ os) (n ∷ ns) size h =
    let one = h 0 o (omega arith) in
    let count : n.before + 0 ≡ o.before + rows = (let b = one.before in omega (arith, b)) in
    let first : run_to 0 n ≡ run_to rows o = (λ j. with_given (one.executor j) (count j) (one.executor j).table.entries) in
    (λ j. first j ∷ shown_level rows os ns (omega (arith, size)) (λ i r a. h (suc i) r (omega (arith, a))) j)

-- one that is taken out
pub shown_remove : (rows : ℕ) (rs : List Runner) (i : ℕ) → shown rows (remove rs i) ≡ remove (shown rows rs) i
shown_remove rows [] zero = refl
shown_remove rows [] (suc i) = refl
shown_remove rows (r ∷ rs) zero = refl
shown_remove rows (r ∷ rs) (suc i) = ap (λ es. run_to rows r ∷ es) (shown_remove rows rs i)

-- a last one
pub shown_last : (rows : ℕ) (rs : List Runner) (r : Runner) → shown rows (rs ++ r ∷ []) ≡ shown rows rs ++ run_to rows r ∷ []
shown_last rows [] r = refl
shown_last rows (x ∷ rs) r = ap (λ es. run_to rows x ∷ es) (shown_last rows rs r)

-- what holds of each runner and of one more holds of all
pub all_last : (P : Runner → Type 0) (rs : List Runner) (r : Runner) → All P rs → P r → All P (rs ++ r ∷ [])
all_last P [] r all own zero d a = own
all_last P [] r all own (suc i) d a = absurd (omega (arith, a))
all_last P (x ∷ rs) r all own zero d a = all 0 d (omega arith)
all_last P (x ∷ rs) r all own (suc i) d a = all_last P rs r (λ j c b. all (suc j) c (omega (arith, b))) own i d (omega (arith, a))

-- it holds of those that are left where one is taken out
pub all_removed : (P : Runner → Type 0) (rs : List Runner) (i : ℕ) → All P rs → All P (remove rs i)
all_removed P [] zero all j d a = all j d a
all_removed P [] (suc i) all j d a = all j d a
all_removed P (x ∷ rs) zero all j d a = all (suc j) d (omega (arith, a))
all_removed P (x ∷ rs) (suc i) all zero d a = all 0 d (omega arith)
all_removed P (x ∷ rs) (suc i) all (suc j) d a = all_removed P rs i (λ k c b. all (suc k) c (omega (arith, b))) j d (omega (arith, a))

-- it holds of all where another one of which it holds is put in
pub all_set : (P : Runner → Type 0) (rs : List Runner) (i : ℕ) (r : Runner) → All P rs → P r → All P (slice_set rs i r)
all_set P [] i r all own j d a = all j d a
all_set P (x ∷ rs) zero r all own zero d a = own
all_set P (x ∷ rs) zero r all own (suc j) d a = all (suc j) d (omega (arith, a))
all_set P (x ∷ rs) (suc i) r all own zero d a = all 0 d (omega arith)
all_set P (x ∷ rs) (suc i) r all own (suc j) d a = all_set P rs i r (λ k c b. all (suc k) c (omega (arith, b))) own j d (omega (arith, a))

-- the count begins anew
pub level_size : (rows : ℕ) (names : List (List ℕ)) (old new : List Runner) → length names ≡ length old → shown 0 new ≡ shown rows old → length names ≡ length new
level_size rows names old new e same =
    e ∙ sym (length-map old (run_to rows)) ∙ ap (λ (es : List ExecutorValue). length es) (sym same) ∙ length-map new (run_to 0)

pub level_live : (rows : ℕ) (names : List (List ℕ)) (old new : List Runner) (live : List Live) → live_of names (shown rows old) ≡ live → shown 0 new ≡ shown rows old → live_of names (shown 0 new) ≡ live
level_live rows names old new live is same = ap (λ (es : List ExecutorValue). live_of names es) same ∙ is

-- but for that number
pub runs_but : (rows : ℕ) (names : List (List ℕ)) (rs : List Runner) (live : List Live) (i : ℕ) (r : Runner) (d : Live)
    → length names ≡ length rs → live_of names (shown rows rs) ≡ live → i < length live → r ≡ slice_index_or rs i r
    → (slice_index_or live i d).executor ≡ with_given r.executor (slice_index_or live i d).executor.given r.executor.table.entries
runs_but rows names rs live i r d e is within at =
    let same = runs_as rows names rs live i r d e is within at in
    same ∙ ap (λ (n : ℕ). with_given r.executor n r.executor.table.entries) (sym (ap (λ (x : ExecutorValue). x.given) same))

-- a runner at a place is shown there
pub run_stands : (rows : ℕ) (rs : List Runner) (place : ℕ) (ρ : Runner) → place < length rs → ρ ≡ slice_index_or rs place ρ → run_to rows ρ ≡ slice_index_or (shown rows rs) place (run_to rows ρ)
run_stands rows rs place ρ within at = ap (run_to rows) at ∙ sym (get_or-map (run_to rows) rs place ρ (run_to rows ρ) within)

-- what is counted of each is counted of the one at a place
pub counted_at : (rows : ℕ) (rs : List Runner) (place : ℕ) (ρ : Runner) → place < length rs → ρ ≡ slice_index_or rs place ρ → All (IsCounted rows) rs → IsCounted rows ρ
counted_at rows rs place ρ within at all = subst (IsCounted rows) (sym at) (all place ρ within)
