-- What a registry stands for after a row, after writing, and after a query came or went.
use Rattle.std.proofs.Common.{◌≡◌, ◌≢◌, ℕ, suc, ◌+◌, ◌<◌, inl, inr, Bool, true, false, cond, not, List, [], ◌∷◌, ◌++◌, map, length, refl, sym, ap, ◌∙◌, subst, arith, slice_index_or, All, Some, None, length-append, nat_lt, ◌||◌}
use Rattle.std.specs.List.{sum_by, remove, list_any, position, position_or_len, prefix_len, sum}
use Rattle.std.specs.Str.{bytes_eq}
use Rattle.std.proofs.lemmas.Bool.{cases_lt}
use Rattle.std.proofs.lemmas.Bool.Decides.{nat_tests}
use Rattle.std.proofs.lemmas.List.{get_or-map, get_or_append_left, ext_get_or, length-map}
use Rattle.std.proofs.Math.Seq.{get_or-append_seam}
use Rattle.std.proofs.lemmas.List.Sums.{sum-map, sum_by-cons}
use Rattle.std.proofs.lemmas.List.Edits.{get_or-remove_below, get_or-remove_above, length-remove}
use Rattle.sem_query.specs.declared.plan.Plan.{Plan}
use Rattle.sem_query.specs.Query.{QueryValue}
use Rattle.sem_query.specs.Numbers.{parts_of, pages_of}
use Rattle.sem_query.specs.Meaning.{Arrival}
use Rattle.sem_query.specs.Sharing.{kept_boxes}
use Rattle.sem_query.specs.Bases.{Base, first_base}
use Rattle.exec_pool.specs.declared.pool.Extent.{Extent}
use Rattle.exec_pool.specs.Extents.{PoolValue}
use Rattle.exec_query.specs.Executor.{ExecutorValue, list_in}
use Rattle.exec_query.specs.Bases.{StandsFrom}
use Rattle.exec_registry.specs.Live.{Live, LiveQuery, boxes_for, newly, with_row, without, free_pages}
use Rattle.exec_registry.specs.Registry.{IsSound, IsLiveFor, AreLiveFor, Wait, AsksTheSame, KeepQueries}
use Rattle.exec_registry.specs.RowByQuery.{TookFirst}
use Rattle.exec_registry.specs.Written.{WroteOne, WroteFirst}
use Rattle.exec_registry.specs.Admitted.{AreBeside, IsNew, IsDropped}
use Rattle.exec_query.specs.Executor as executor
use Rattle.exec_registry.proofs.Beside.{live_for_same}
use Rattle.exec_registry.proofs.Settling.{settled_sound}

-- the query at a place, with the row
with_row_at : (r : Arrival) (queries : List LiveQuery) (i : ℕ) (q : LiveQuery) → i < length queries → slice_index_or (map (with_row r) queries) i q ≡ with_row r (slice_index_or queries i q)
with_row_at r queries i q within = get_or-map (with_row r) queries i q q within

pub rows_stand : (r : Arrival) (pool later : PoolValue) (before after : List Live) (queries : List LiveQuery) → TookFirst r (length before) pool later before after → AreLiveFor pool before queries
    → AreLiveFor later after (map (with_row r) queries)
rows_stand r pool later before after queries t all = record {
  size = t.size ∙ all.size ∙ sym (length-map queries (with_row r));
  each = λ i l q a.
      (let within : i < length before = omega (arith, a, t.size) in
      subst (λ (x : LiveQuery). IsLiveFor later (slice_index_or after i l) x) (sym (with_row_at r queries i q (omega (arith, within, all.size)))) (t.done queries all i l q within within).0);
}

pub rows_wait : (r : Arrival) (pool later : PoolValue) (before after : List Live) (queries : List LiveQuery) → TookFirst r (length before) pool later before after → AreLiveFor pool before queries → Wait after queries r
rows_wait r pool later before after queries t all = record {
  each = λ i l q a. (let within : i < length before = omega (arith, a, t.size) in (t.done queries all i l q within within).1);
}

-- an extent stays when what waits was written
extent_stays : (before after : Live) → WroteOne before after → after.executor.extent ≡ before.executor.extent
extent_stays before after w = ap (λ (e : ExecutorValue). e.extent) w.same

-- so do the pages of the one at a place
pages_at : (before after : List Live) → WroteFirst (length before) before after → (i : ℕ) → i < length after → i < length before
    → slice_index_or (map (λ (l : Live). l.executor.extent.pages) after) i 0 ≡ slice_index_or (map (λ (l : Live). l.executor.extent.pages) before) i 0
pages_at [] after w i a b = absurd (omega arith)
pages_at (l ∷ others) after w i a b =
    let f : Live → ℕ = λ (x : Live). x.executor.extent.pages in
    get_or-map f after i l 0 a ∙ ap (λ (e : Extent). e.pages) (extent_stays (slice_index_or (l ∷ others) i l) (slice_index_or after i l) (w.done i l b b)) ∙ sym (get_or-map f (l ∷ others) i l 0 b)

pages_stay : (before after : List Live) → WroteFirst (length before) before after → sum_by (λ (l : Live). l.executor.extent.pages) after ≡ sum_by (λ (l : Live). l.executor.extent.pages) before
pages_stay before after w =
    let f : Live → ℕ = λ (l : Live). l.executor.extent.pages in
    let same : map f after ≡ map f before
    = ext_get_or 0 (map f after) (map f before) (length-map after f ∙ w.size ∙ sym (length-map before f))
    (λ i a. let within : i < length after = omega (arith, a, length-map after f) in let here : i < length before = omega (arith, within, w.size) in pages_at before after w i within here) in
    sym (sum-map f after) ∙ ap sum same ∙ sum-map f before

-- what is true of an executor is true of it after what waits was written
sound_written : (before after : Live) → WroteOne before after → executor.IsSound before.executor → executor.IsSound after.executor
sound_written before after w s =
    subst (λ (e : ExecutorValue). executor.IsSound e) (sym w.same) (settled_sound before.executor s)

-- a registry is sound after what waits was written
pub written_sound : (pool : PoolValue) (before after : List Live) → IsSound pool before → WroteFirst (length before) before after → IsSound pool after
written_sound pool before after s w = record {
  few = omega (arith, w.size, s.few);
  slots = s.slots;
  count = s.count ∙ sym w.size;
  free = ap (λ n. pool.free + n) (pages_stay before after w) ∙ s.free;
  sound = λ i l a. (let here : i < length before = omega (arith, a, w.size) in sound_written (slice_index_or before i l) (slice_index_or after i l) (w.done i l here here) (s.sound i l here));
  within = λ i l a. (let here : i < length before = omega (arith, a, w.size) in (w.done i l here here).within pool (s.within i l here));
  kept = λ i l a. (let here : i < length before = omega (arith, a, w.size) in (w.done i l here here).kept pool (s.kept i l here));
  apart = λ i j l a b.
      (let second : j < length before = omega (arith, b, w.size) in
      let one : i < length before = omega (arith, a, second) in
      subst (λ (e : Extent). e.slot ≢ (slice_index_or after j l).executor.extent.slot) (sym (extent_stays (slice_index_or before i l) (slice_index_or after i l) (w.done i l one one)))
      (subst (λ (e : Extent). (slice_index_or before i l).executor.extent.slot ≢ e.slot) (sym (extent_stays (slice_index_or before j l) (slice_index_or after j l) (w.done j l second second))) (s.apart i j l a second)));
}

pub written_stands : (pool : PoolValue) (before after : List Live) (queries : List LiveQuery) → WroteFirst (length before) before after → AreLiveFor pool before queries → AreLiveFor pool after queries
written_stands pool before after queries w all = record {
  size = w.size ∙ all.size;
  each = λ i l q a.
      (let here : i < length before = omega (arith, a, w.size) in
      let one = w.done i l here here in
      let was = all.each i l q here in
      record {
        name = one.name ∙ was.name;
        query = ap (λ (e : ExecutorValue). e.query) one.same ∙ was.query;
        shared = ap (λ (e : ExecutorValue). e.shared) one.same ∙ was.shared;
        plan = ap (λ (e : ExecutorValue). e.plan) one.same ∙ was.plan;
        stands = one.bases pool (slice_index_or queries i q).base (slice_index_or queries i q).history was.stands;
      });
}

-- the live queries stand for what they stood for where their cells are the same
pub beside_stands : (pool later : PoolValue) (live : List Live) (queries : List LiveQuery) → AreBeside live pool later → AreLiveFor pool live queries → AreLiveFor later live queries
beside_stands pool later live queries b all = record {
  size = all.size;
  each = λ i l q a. live_for_same (slice_index_or live i l) (slice_index_or queries i q) pool later (b.each i l a) (all.each i l q a);
}

-- and for one more where one more is live
pub added_stands : (pool later : PoolValue) (live : List Live) (queries : List LiveQuery) (name : List ℕ) (q : QueryValue) (shared : Bool) (plan : Plan) (e : Extent) (l : Live)
    → AreBeside live pool later → AreLiveFor pool live queries → IsNew name q shared plan e later l → AreLiveFor later (live ++ l ∷ []) (queries ++ newly name q shared plan ∷ [])
added_stands pool later live queries name q shared plan e l b all new =
    let size : length (live ++ l ∷ []) ≡ length live + 1 = length-append live (l ∷ []) in
    let sizes : length (queries ++ newly name q shared plan ∷ []) ≡ length queries + 1 = length-append queries (newly name q shared plan ∷ []) in
    let base : first_base (list_in l.executor) ≡ first_base (boxes_for q shared plan) = (λ j. first_base (kept_boxes (new.sharing j) (new.asked j) (parts_of (new.planned j)))) in
    let stands : StandsFrom l.executor later (first_base (boxes_for q shared plan)) [] = subst (λ (b : Base). StandsFrom l.executor later b []) base new.stands in
    record {
      size = omega (arith, size, sizes, all.size);
      each = λ i c d a. elim (cases_lt i (length live)) [
        | inl less ↦
            subst (λ (x : Live). IsLiveFor later x (slice_index_or (queries ++ newly name q shared plan ∷ []) i d)) (sym (get_or_append_left live (l ∷ []) c i less))
            (subst (λ (x : LiveQuery). IsLiveFor later (slice_index_or live i c) x) (sym (get_or_append_left queries (newly name q shared plan ∷ []) d i (omega (arith, less, all.size))))
            (live_for_same (slice_index_or live i c) (slice_index_or queries i d) pool later (b.each i c less) (all.each i c d less)))
        | inr past ↦ (let same : i ≡ length live = omega (arith, past, a, size) in
            let there : i ≡ length queries = omega (arith, same, all.size) in
            subst (λ (x : Live). IsLiveFor later x (slice_index_or (queries ++ newly name q shared plan ∷ []) i d)) (sym (ap (λ j. slice_index_or (live ++ l ∷ []) j c) same ∙ get_or-append_seam live l [] c))
            (subst (λ (x : LiveQuery). IsLiveFor later l x) (sym (ap (λ j. slice_index_or (queries ++ newly name q shared plan ∷ []) j d) there ∙ get_or-append_seam queries (newly name q shared plan) [] d))
            (record { name = new.named; query = new.asked; shared = new.sharing; plan = new.planned; stands = stands })))
      ];
    }

-- the live queries without the one at a place
removed_stands : (i : ℕ) (pool later : PoolValue) (live : List Live) (queries : List LiveQuery) → i < length live → AreBeside (remove live i) pool later → AreLiveFor pool live queries
    → AreLiveFor later (remove live i) (remove queries i)
removed_stands i pool later live queries within b all =
    let size : length (remove live i) + 1 ≡ length live = length-remove live i within in
    let there : i < length queries = omega (arith, within, all.size) in
    let sizes : length (remove queries i) + 1 ≡ length queries = length-remove queries i there in
    record {
      size = omega (arith, size, sizes, all.size);
      each = λ k c d a. live_for_same (slice_index_or (remove live i) k c) (slice_index_or (remove queries i) k d) pool later (b.each k c a) (elim (cases_lt k i) [
        | inl less ↦
            subst (λ (x : Live). IsLiveFor pool x (slice_index_or (remove queries i) k d)) (sym (get_or-remove_below live i c k less within))
            (subst (λ (x : LiveQuery). IsLiveFor pool (slice_index_or live k c) x) (sym (get_or-remove_below queries i d k less there)) (all.each k c d (omega (arith, less, within))))
        | inr past ↦
            subst (λ (x : Live). IsLiveFor pool x (slice_index_or (remove queries i) k d)) (sym (get_or-remove_above live i c k past within))
            (subst (λ (x : LiveQuery). IsLiveFor pool (slice_index_or live (k + 1) c) x) (sym (get_or-remove_above queries i d k past there)) (all.each (k + 1) c d (omega (arith, a, size))))
      ]);
    }

-- the names of what is kept are those of the live queries
pub same_names : (pool : PoolValue) (live : List Live) (queries : List LiveQuery) → AreLiveFor pool live queries → map (λ (l : Live). l.name) live ≡ map (λ (q : LiveQuery). q.name) queries
same_names pool [] [] all = refl
same_names pool [] (q ∷ queries) all = absurd (omega (arith, all.size))
same_names pool (l ∷ live) [] all = absurd (omega (arith, all.size))
same_names pool (l ∷ live) (q ∷ queries) all =
    let first = (all.each 0 l q (omega arith)).name in
    let others : AreLiveFor pool live queries = record { size = omega (arith, all.size); each = λ i c d a. all.each (suc i) c d (omega arith) } in
    ap (λ n. n ∷ map (λ (x : Live). x.name) live) first ∙ ap (λ ns. q.name ∷ ns) (same_names pool live queries others)

-- how many names come before this one
abbrev before : List ℕ → List (List ℕ) → ℕ
before name ns = prefix_len (λ n. not (bytes_eq n name)) ns

before-live : (name : List ℕ) (live : List Live) → position_or_len (λ (l : Live). bytes_eq l.name name) live ≡ before name (map (λ (l : Live). l.name) live)
before-live name [] = refl
before-live name (l ∷ live) = ap (λ n. cond (not (bytes_eq l.name name)) (1 + n) 0) (before-live name live)

one_removed : (b : Bool) (q : LiveQuery) (queries others : List LiveQuery) (n : ℕ) → others ≡ remove queries n → cond b queries (q ∷ others) ≡ remove (q ∷ queries) (cond (not b) (1 + n) 0)
one_removed true q queries others n e = refl
one_removed false q queries others n e =
    let next : suc n ≡ 1 + n = omega arith in
    subst (λ k. q ∷ others ≡ remove (q ∷ queries) k) next (ap (λ l. q ∷ l) e)

without-removed : (name : List ℕ) (queries : List LiveQuery) → without name queries ≡ remove queries (before name (map (λ (q : LiveQuery). q.name) queries))
without-removed name [] = refl
without-removed name (q ∷ queries) = one_removed (bytes_eq q.name name) q queries (without name queries) (before name (map (λ (q : LiveQuery). q.name) queries)) (without-removed name queries)

-- where a name was found
pub found_place : (name : List ℕ) (live : List Live) (place : ℕ) → position (λ (l : Live). bytes_eq l.name name) live ≡ Some place
    → (place < length live) × (place ≡ position_or_len (λ (l : Live). bytes_eq l.name name) live)
found_place name live place e = by (nat_lt (position_or_len (λ (l : Live). bytes_eq l.name name) live) (length live)) refl e
  where
    by : (b : Bool) → nat_lt (position_or_len (λ (l : Live). bytes_eq l.name name) live) (length live) ≡ b
        → cond b (Some (position_or_len (λ (l : Live). bytes_eq l.name name) live)) None ≡ Some place
        → (place < length live) × (place ≡ position_or_len (λ (l : Live). bytes_eq l.name name) live)
    by true t f = (let same : position_or_len (λ (l : Live). bytes_eq l.name name) live ≡ place = cc in (grind (arith, nat_tests), sym same))
    by false t f = absurd (cc)

fewer : (a n : ℕ) → nat_lt (1 + a) (suc n) ≡ false → nat_lt a n ≡ false
fewer a n t = grind (arith, nat_tests)

none_less : (n : ℕ) → nat_lt 0 (suc n) ≡ false → ⊥
none_less n t = grind (arith, nat_tests)

past_one : (b : Bool) (a n : ℕ) (any : Bool) → nat_lt (cond (not b) (1 + a) 0) (suc n) ≡ false → (nat_lt a n ≡ false → any ≡ false) → (b || any) ≡ false
past_one true a n any t f = absurd (none_less n t)
past_one false a n any t f = f (fewer a n t)

none_before : (name : List ℕ) (live : List Live) → nat_lt (position_or_len (λ (l : Live). bytes_eq l.name name) live) (length live) ≡ false → list_any (λ (l : Live). bytes_eq l.name name) live ≡ false
none_before name [] t = refl
none_before name (l ∷ live) t = past_one (bytes_eq l.name name) (position_or_len (λ (l : Live). bytes_eq l.name name) live) (length live) _ t (none_before name live)

-- a name that is there is found
pub not_found : (name : List ℕ) (live : List Live) → position (λ (l : Live). bytes_eq l.name name) live ≡ None → list_any (λ (l : Live). bytes_eq l.name name) live ≡ false
not_found name live e = by (nat_lt (position_or_len (λ (l : Live). bytes_eq l.name name) live) (length live)) refl e
  where
    by : (b : Bool) → nat_lt (position_or_len (λ (l : Live). bytes_eq l.name name) live) (length live) ≡ b
        → cond b (Some (position_or_len (λ (l : Live). bytes_eq l.name name) live)) None ≡ None → list_any (λ (l : Live). bytes_eq l.name name) live ≡ false
    by true t f = absurd (cc)
    by false t f = none_before name live t

pub dropped_stands : (name : List ℕ) (place : ℕ) (pool later : PoolValue) (live after : List Live) (queries : List LiveQuery)
    → position (λ (l : Live). bytes_eq l.name name) live ≡ Some place → IsDropped place pool live later after → AreLiveFor pool live queries → AreLiveFor later after (without name queries)
dropped_stands name place pool later live after queries e d all =
    let found = found_place name live place e in
    let at : before name (map (λ (q : LiveQuery). q.name) queries) ≡ place = ap (before name) (sym (same_names pool live queries all)) ∙ sym (before-live name live) ∙ sym found.1 in
    let beside : AreBeside (remove live place) pool later = subst (λ (x : List Live). AreBeside x pool later) d.left d.beside in
    subst (λ (x : List Live). AreLiveFor later x (without name queries)) (sym d.left)
    (subst (λ (x : List LiveQuery). AreLiveFor later (remove live place) x) (sym (without-removed name queries ∙ ap (remove queries) at)) (removed_stands place pool later live queries found.0 beside all))

-- what holds of each live query holds of those that are left
pub dropped_all : (P : Live → Type 0) (place : ℕ) (pool later : PoolValue) (live after : List Live) → place < length live → IsDropped place pool live later after → All P live → All P after
dropped_all P place pool later live after within d all =
    subst (All P) (sym d.left) (λ k c a.
    (let size : length (remove live place) + 1 ≡ length live = length-remove live place within in
    elim (cases_lt k place) [
      | inl less ↦ subst P (sym (get_or-remove_below live place c k less within)) (all k c (omega (arith, less, within)))
      | inr past ↦ subst P (sym (get_or-remove_above live place c k past within)) (all (k + 1) c (omega (arith, a, size)))
    ]))

-- what holds of each live query and of one more holds of all
pub added_all : (P : Live → Type 0) (live : List Live) (l : Live) → All P live → P l → All P (live ++ l ∷ [])
added_all P live l all new = λ k c a.
    (let size : length (live ++ l ∷ []) ≡ length live + 1 = length-append live (l ∷ []) in
    elim (cases_lt k (length live)) [
      | inl less ↦ subst P (sym (get_or_append_left live (l ∷ []) c k less)) (all k c less)
      | inr past ↦ (let same : k ≡ length live = omega (arith, past, a, size) in subst P (sym (ap (λ j. slice_index_or (live ++ l ∷ []) j c) same ∙ get_or-append_seam live l [] c)) new)
    ])

-- the pages of the live queries are those of their plans
lent_pages : (pool : PoolValue) (live : List Live) (queries : List LiveQuery) → All (λ (l : Live). l.executor.extent.pages ≡ pages_of l.executor.plan) live → AreLiveFor pool live queries
    → sum_by (λ (l : Live). l.executor.extent.pages) live ≡ sum_by (λ (q : LiveQuery). pages_of q.plan) queries
lent_pages pool [] [] p all = refl
lent_pages pool [] (q ∷ queries) p all = absurd (omega (arith, all.size))
lent_pages pool (l ∷ live) [] p all = absurd (omega (arith, all.size))
lent_pages pool (l ∷ live) (q ∷ queries) p all =
    let one : l.executor.extent.pages ≡ pages_of q.plan = p 0 l (omega arith) ∙ ap pages_of (all.each 0 l q (omega arith)).plan in
    let others : AreLiveFor pool live queries = record { size = omega (arith, all.size); each = λ i c d a. all.each (suc i) c d (omega arith) } in
    let rest = lent_pages pool live queries (λ i c a. p (suc i) c (omega arith)) others in
    let left = sum_by-cons (λ (x : Live). x.executor.extent.pages) l live in
    let right = sum_by-cons (λ (x : LiveQuery). pages_of x.plan) q queries in
    omega (arith, one, rest, left, right)

-- the free pages are those beside the pages of the live queries
pub free_beside : (pool : PoolValue) (live : List Live) (queries : List LiveQuery) → IsSound pool live → AreLiveFor pool live queries → pool.free ≡ free_pages pool.pages queries
free_beside pool live queries s all = (let e = lent_pages pool live queries (λ i l a. (s.within i l a).pages) all in omega (arith, e, s.free))

asks_alike : {l m : Live} → l ≡ m → AsksTheSame l m
asks_alike e = record { name = ap (λ (x : Live). x.name) e; query = ap (λ (x : Live). x.executor.query) e; shared = ap (λ (x : Live). x.executor.shared) e }

-- a row and writing keep what is asked, and a query that is dropped leaves the others
pub rows_keep : (r : Arrival) (pool later : PoolValue) (before after : List Live) → TookFirst r (length before) pool later before after → KeepQueries before after
rows_keep r pool later before after t i l a = (i, omega (arith, a, t.size), t.asked i l (omega (arith, a, t.size)))

pub written_keep : (before after : List Live) → WroteFirst (length before) before after → KeepQueries before after
written_keep before after w i l a =
    let here : i < length before = omega (arith, a, w.size) in
    let one = w.done i l here here in
    (i, here, record { name = one.name; query = ap (λ (e : ExecutorValue). e.query) one.same; shared = ap (λ (e : ExecutorValue). e.shared) one.same })

pub dropped_keep : (place : ℕ) (pool later : PoolValue) (live after : List Live) → place < length live → IsDropped place pool live later after → KeepQueries live after
dropped_keep place pool later live after within d =
    subst (KeepQueries live) (sym d.left) (λ i l a.
    (let size : length (remove live place) + 1 ≡ length live = length-remove live place within in
    elim (cases_lt i place) [
      | inl less ↦ (i, omega (arith, less, within), asks_alike (get_or-remove_below live place l i less within))
      | inr past ↦ (i + 1, omega (arith, a, size), asks_alike (get_or-remove_above live place l i past within))
    ]))
