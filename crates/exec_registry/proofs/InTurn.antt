-- The live queries take a row one after the other.
use Rattle.std.proofs.Common.{◌≡◌, ◌≢◌, ℕ, suc, ◌+◌, ◌<◌, ◌≤◌, ◌^◌, inl, inr, List, [], ◌∷◌, length, take, refl, sym, ap, ◌∙◌, subst, arith, slice_index_or, slice_set, All, AllPairs}
use Rattle.std.specs.List.{sum_by}
use Rattle.std.proofs.lemmas.Bool.{cases_eq, cases_order}
use Rattle.std.proofs.lemmas.List.{length-set, get_or-set_same, get_or-set_other, get_or_default}
use Rattle.std.proofs.lemmas.List.Sums.{sum_by-set, sum_by-append, sum_by-cons}
use Rattle.std.proofs.Math.Seq.{take-suc}
use Rattle.sem_query.specs.declared.cell.Cell.{Cell}
use Rattle.sem_query.specs.Domains.{RowKeeps}
use Rattle.sem_query.specs.Meaning.{Arrival}
use Rattle.sem_query.specs.Numbers.{parts_of}
use Rattle.sem_query.specs.Sharing.{kept_boxes}
use Rattle.exec_pool.specs.declared.pool.Extent.{Extent}
use Rattle.exec_pool.specs.Extents.{PoolValue, cells_of, with_cells, IsLive, live_extents}
use Rattle.exec_pool.proofs.CallerLemmas.{live_extents_with}
use Rattle.exec_query.specs.Executor as executor
use Rattle.exec_query.specs.Executor.{ExecutorValue, waiting_in}
use Rattle.exec_query.specs.Standing.{AreKept, KeepsWithin, IsReady}
use Rattle.exec_query.specs.Bases.{answers_by}
use Rattle.exec_query.specs.Row.{TakesRow}
use Rattle.exec_registry.specs.Live.{Live, LiveQuery, named, answers_of, with_row}
use Rattle.exec_registry.specs.Registry.{IsSound, IsLiveFor, KeepsToEach, AsksTheSame}
use Rattle.exec_registry.specs.RowByQuery.{TookOne, TookFirst}
use Rattle.exec_registry.specs.Admitted.{AreSame}
use Rattle.exec_registry.proofs.Beside.{kept_beside, within_beside, live_for_same, beside, written_alone}

pub took_none : (r : Arrival) (pool : PoolValue) (live : List Live) → IsSound pool live → TookFirst r 0 pool pool live live
took_none r pool live sound = record {
  sound = sound;
  pages = refl;
  size = refl;
  given = λ i l a. omega arith;
  ready = λ i l a b. refl;
  plans = λ i l a. refl;
  asked = λ i l a. record { name = refl; query = refl; shared = refl };
  done = λ queries all i l q a b. absurd (omega arith);
  others = λ queries all i l q a b. all.each i l q b;
}

-- the next live query can take the row
pub next_ready : (r : Arrival) (n : ℕ) (pool mid : PoolValue) (before now : List Live) (d : Live)
    → TookFirst r n pool mid before now → n < length before → All (λ (l : Live). l.executor.given < 2 ^ 40) before → IsReady (slice_index_or now n d).executor mid
next_ready r n pool mid before now d t within few = record {
  kept = t.sound.kept n d (omega (arith, t.size, within));
  few = subst (λ (l : Live). l.executor.given < 2 ^ 40) (sym (t.ready n d (omega arith) within)) (few n d within);
}

-- the row keeps to the domains of the next live query
pub next_keeps : (r : Arrival) (n : ℕ) (pool mid : PoolValue) (before now : List Live) (d : Live)
    → TookFirst r n pool mid before now → n < length before → KeepsToEach before r → RowKeeps (slice_index_or now n d).executor.query r
next_keeps r n pool mid before now d t within keeps =
    subst (λ (l : Live). RowKeeps l.executor.query r) (sym (t.ready n d (omega arith) within)) (keeps n d within)

-- what was put in at a place, or what stands beside
pub put : (P : Live → Type 0) (now : List Live) (n k : ℕ) (d l' : Live) → n < length now → (k ≡ n → P l') → (k ≢ n → P (slice_index_or now k d)) → P (slice_index_or (slice_set now n l') k d)
put P now n k d l' within at other = elim (cases_eq k n) [
  | inl e ↦ subst P (sym (ap (λ j. slice_index_or (slice_set now n l') j d) e ∙ get_or-set_same now n l' d within)) (at e)
  | inr ne ↦ subst P (sym (get_or-set_other now n k l' d ne)) (other ne)
]

-- the extents stay
extents_stay : (now : List Live) (n : ℕ) (d l' : Live) → n < length now → l'.executor.extent ≡ (slice_index_or now n d).executor.extent
    → (k : ℕ) → (slice_index_or (slice_set now n l') k d).executor.extent ≡ (slice_index_or now k d).executor.extent
extents_stay now n d l' within same k =
    put (λ (x : Live). x.executor.extent ≡ (slice_index_or now k d).executor.extent) now n k d l' within
    (λ e. same ∙ ap (λ j. (slice_index_or now j d).executor.extent) (sym e)) (λ ne. refl)

-- the place of a default does not matter
other_default : (now : List Live) (k : ℕ) (d c : Live) → k < length now → slice_index_or now k d ≡ slice_index_or now k c
other_default now k d c within = get_or_default now k d c within

-- the slots of two live queries differ
pub slots_apart : (now : List Live) → AllPairs (λ (l m : Live). l.executor.extent.slot ≢ m.executor.extent.slot) now → (i j : ℕ) (c d : Live) → i < length now → j < length now → i ≢ j
    → (slice_index_or now i c).executor.extent.slot ≢ (slice_index_or now j d).executor.extent.slot
slots_apart now apart i j c d a b ne = elim (cases_order i j) [
  | inl e ↦ absurd (ne e)
  | inr h ↦ elim h [
    | inl less ↦ subst (λ (x : Live). (slice_index_or now i c).executor.extent.slot ≢ x.executor.extent.slot) (other_default now j c d b) (apart i j c less b)
    | inr more ↦ (λ same. subst (λ (x : Live). x.executor.extent.slot ≢ (slice_index_or now i c).executor.extent.slot) (other_default now j c d b) (apart j i c more a) (sym same))
  ]
]

-- a live query whose executor took the row
pub took_one : (r : Arrival) (pool later : PoolValue) (name : List ℕ) (before after : ExecutorValue) → IsLive pool before.extent → TakesRow before pool r after later
    → executor.IsSound after → TookOne r pool later (named name before) (named name after)
took_one r pool later name before after live took sound = record {
  name = refl;
  same = took.row.same;
  only = written_alone pool later before.extent _ live took.row.cells;
  sound = sound;
  kept = took.row.kept;
  within = took.within;
  bases = took.bases;
}

-- the live query that took the row goes on from its base with the row, and the answers wait
pub took_here : (r : Arrival) (mid later : PoolValue) (l l' : Live) (q : LiveQuery) → TookOne r mid later l l' → IsLiveFor mid l q
    → IsLiveFor later l' (with_row r q) × (waiting_in l'.executor ≡ answers_of r q)
took_here r mid later l l' q one h =
    let took = one.bases q.base q.history h.stands in (
      record {
        name = one.name ∙ h.name;
        query = ap (λ (x : ExecutorValue). x.query) one.same ∙ h.query;
        shared = ap (λ (x : ExecutorValue). x.shared) one.same ∙ h.shared;
        plan = ap (λ (x : ExecutorValue). x.plan) one.same ∙ h.plan;
        stands = took.1;
      },
      took.0 ∙ (λ j. answers_by (h.query j) (parts_of (h.plan j)) (kept_boxes (h.shared j) (h.query j) (parts_of (h.plan j))) q.base q.history r),
    )

-- the extents of the others lie beside one that was written
pub beside_set : (pool later : PoolValue) (now : List Live) (n : ℕ) (d : Live) → IsSound pool now → n < length now
    → later ≡ with_cells pool (slice_index_or now n d).executor.extent (cells_of later (slice_index_or now n d).executor.extent)
    → (k : ℕ) (c : Live) → k < length now → k ≢ n → AreSame (slice_index_or now k c).executor.extent pool later
beside_set pool later now n d sound here only k c a ne =
    let e : Extent = (slice_index_or now n d).executor.extent in
    beside e (slice_index_or now k c).executor.extent pool later (cells_of later e) only (slots_apart now sound.apart k n c d a here ne) (sound.kept k c a).live

-- all is sound where one live query was put in at its place, which wrote its own cells alone
pub set_sound : (pool later : PoolValue) (now : List Live) (n : ℕ) (d l' : Live) → IsSound pool now → n < length now
    → l'.executor.extent ≡ (slice_index_or now n d).executor.extent
    → later ≡ with_cells pool (slice_index_or now n d).executor.extent (cells_of later (slice_index_or now n d).executor.extent)
    → executor.IsSound l'.executor → KeepsWithin l'.executor later → AreKept l'.executor later → IsSound later (slice_set now n l')
set_sound pool later now n d l' sound here same only own within kept =
    let l : Live = slice_index_or now n d in
    let size : length (slice_set now n l') ≡ length now = length-set now n l' in
    let live : IsLive pool l.executor.extent = (sound.kept n d here).live in
    let xs : List Cell = cells_of later l.executor.extent in
    let near = beside_set pool later now n d sound here only in
    record {
      few = omega (arith, size, sound.few);
      slots = ap (λ (p : PoolValue). length p.extents) only ∙ length-set pool.extents l.executor.extent.slot _ ∙ sound.slots;
      count = ap live_extents only ∙ live_extents_with pool l.executor.extent xs live ∙ sound.count ∙ sym size;
      free =
          (let sums = sum_by-set (λ (x : Live). x.executor.extent.pages) now n l' d here in
          let pages : l'.executor.extent.pages ≡ l.executor.extent.pages = ap (λ (e : Extent). e.pages) same in
          let free : later.free ≡ pool.free = ap (λ (p : PoolValue). p.free) only in
          let all : later.pages ≡ pool.pages = ap (λ (p : PoolValue). p.pages) only in
          omega (arith, sums, pages, free, all, sound.free));
      sound = λ k c a. put (λ (x : Live). executor.IsSound x.executor) now n k c l' here (λ e. own) (λ ne. sound.sound k c (omega (arith, a, size)));
      within = λ k c a. put (λ (x : Live). KeepsWithin x.executor later) now n k c l' here (λ e. within)
          (λ ne. within_beside (slice_index_or now k c).executor pool later (near k c (omega (arith, a, size)) ne) (sound.within k c (omega (arith, a, size))));
      kept = λ k c a. put (λ (x : Live). AreKept x.executor later) now n k c l' here (λ e. kept)
          (λ ne. kept_beside (slice_index_or now k c).executor pool later (near k c (omega (arith, a, size)) ne) (sound.kept k c (omega (arith, a, size))));
      apart = λ i j c a b.
          (let p = extents_stay now n c l' here (same ∙ ap (λ (x : Live). x.executor.extent) (other_default now n d c here)) i in
          let q = extents_stay now n c l' here (same ∙ ap (λ (x : Live). x.executor.extent) (other_default now n d c here)) j in
          subst (λ (e : Extent). e.slot ≢ (slice_index_or (slice_set now n l') j c).executor.extent.slot) (sym p)
          (subst (λ (e : Extent). (slice_index_or now i c).executor.extent.slot ≢ e.slot) (sym q) (sound.apart i j c a (omega (arith, b, size)))));
    }

pub took_more : (r : Arrival) (n : ℕ) (pool mid later : PoolValue) (before now : List Live) (l' d : Live)
    → TookFirst r n pool mid before now → n < length before → TookOne r mid later (slice_index_or now n d) l' → TookFirst r (suc n) pool later before (slice_set now n l')
took_more r n pool mid later before now l' d t within one =
    let here : n < length now = omega (arith, t.size, within) in
    let l : Live = slice_index_or now n d in
    let same : l'.executor.extent ≡ l.executor.extent = ap (λ (x : ExecutorValue). x.extent) one.same in
    let size : length (slice_set now n l') ≡ length now = length-set now n l' in
    let near = beside_set mid later now n d t.sound here one.only in
    record {
      sound = set_sound mid later now n d l' t.sound here same one.only one.sound (one.within (t.sound.within n d here)) one.kept;
      pages = ap (λ (p : PoolValue). p.pages) one.only ∙ t.pages;
      size = size ∙ t.size;
      given = λ k c a.
          put (λ (x : Live). x.executor.given ≤ (slice_index_or before k c).executor.given + 1) now n k c l' here
          (λ e. let g : l'.executor.given ≡ l.executor.given + 1 = ap (λ (x : ExecutorValue). x.given) one.same in
          let u : l.executor.given ≡ (slice_index_or before n d).executor.given = ap (λ (x : Live). x.executor.given) (t.ready n d (omega arith) within) in
          let v : (slice_index_or before n d).executor.given ≡ (slice_index_or before k c).executor.given = ap (λ (x : Live). x.executor.given) (other_default before n d c within ∙ ap (λ j. slice_index_or before j c) (sym e)) in
          omega (arith, g, u, v))
          (λ ne. t.given k c a);
      ready = λ k c a b. get_or-set_other now n k l' c (λ e. omega (arith, e, a)) ∙ t.ready k c (omega arith) b;
      plans = λ k c a.
          put (λ (x : Live). x.executor.plan ≡ (slice_index_or before k c).executor.plan) now n k c l' here
          (λ e. ap (λ (x : ExecutorValue). x.plan) one.same ∙ ap (λ (x : Live). x.executor.plan) (t.ready n d (omega arith) within)
          ∙ ap (λ (x : Live). x.executor.plan) (other_default before n d c within ∙ ap (λ j. slice_index_or before j c) (sym e)))
          (λ ne. t.plans k c a);
      asked = λ k c a.
          put (λ (x : Live). AsksTheSame x (slice_index_or before k c)) now n k c l' here
          (λ e. subst (λ (x : Live). AsksTheSame l' x) (t.ready n d (omega arith) within ∙ other_default before n d c within ∙ ap (λ j. slice_index_or before j c) (sym e))
          (record { name = one.name; query = ap (λ (x : ExecutorValue). x.query) one.same; shared = ap (λ (x : ExecutorValue). x.shared) one.same }))
          (λ ne. t.asked k c a);
      done = λ queries all k c q a b.
          put (λ (x : Live). IsLiveFor later x (with_row r (slice_index_or queries k q)) × (waiting_in x.executor ≡ answers_of r (slice_index_or queries k q))) now n k c l' here
          (λ e. took_here r mid later l l' (slice_index_or queries k q) one
          (subst (λ j. IsLiveFor mid l (slice_index_or queries j q)) (sym e) (t.others queries all n d q (omega arith) within)))
          (λ ne. (let was = t.done queries all k c q (omega (arith, a, ne)) b in
          (live_for_same (slice_index_or now k c) (with_row r (slice_index_or queries k q)) mid later (near k c (omega (arith, b, t.size)) ne) was.0, was.1)));
      others = λ queries all k c q a b.
          subst (λ (x : Live). IsLiveFor later x (slice_index_or queries k q)) (sym (get_or-set_other now n k l' c (λ e. omega (arith, e, a))))
          (live_for_same (slice_index_or now k c) (slice_index_or queries k q) mid later (near k c (omega (arith, b, t.size)) (λ e. omega (arith, e, a))) (t.others queries all k c q (omega arith) b));
    }

-- one more summand
pub sum_more : (f : Live → ℕ) (xs : List Live) (n : ℕ) (d : Live) → n < length xs → sum_by f (take (suc n) xs) ≡ sum_by f (take n xs) + f (slice_index_or xs n d)
sum_more f xs n d within = ap (sum_by f) (take-suc xs n d within) ∙ sum_by-append f (take n xs) _ ∙ sum_one
  where
    sum_one : sum_by f (take n xs) + sum_by f (slice_index_or xs n d ∷ []) ≡ sum_by f (take n xs) + f (slice_index_or xs n d)
    sum_one = omega (arith, sum_by-cons f (slice_index_or xs n d) [])
