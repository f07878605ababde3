-- What callers use: what `with_cells`, a taken and a given back extent leave of each extent.
use Rattle.std.proofs.Common.{◌≡◌, ℕ, ◌+◌, ◌*◌, ◌<◌, ◌≢◌, Option, None, Some, List, [], length, get_or, set, replicate, refl, sym, ap, ◌∙◌, arith, unwrap_or, is_some, cond, inl, inr, get_or-set_same, get_or-set_other, length-set}
use Rattle.std.proofs.lemmas.List.{get_or_past, length-replicate, set-set}
use Rattle.std.proofs.lemmas.Bool.{cases_lt}
use Rattle.std.proofs.lemmas.Option.{none-some}
use Rattle.sem_query.specs.declared.cell.Cell.{Cell}
use Rattle.sem_query.specs.declared.cell.Cell.TheVariants.{Empty}
use Rattle.exec_pool.specs.declared.pool.Extent.{Extent}
use Rattle.std.specs.List.{sum_by}
use Rattle.std.proofs.lemmas.List.Sums.{sum_by-set}
use Rattle.exec_pool.specs.Extents.{PoolValue, cells_of, with_cells, live_extents, pages_at, AreApart, IsLive, IsTaken, IsGivenBack}

-- a live extent has a slot of the pool
pub slot_of_live : (p : PoolValue) (e : Extent) → IsLive p e → e.slot < length p.extents
slot_of_live p e h =
    elim (cases_lt e.slot (length p.extents)) [
      | inl within ↦ within
      | inr past ↦ absurd (none-some (cells_of p e) (sym (get_or_past p.extents e.slot None past) ∙ h.live))
    ]

-- the extent's own cells after a write
pub cells_of_with : (p : PoolValue) (e : Extent) (xs : List Cell) → IsLive p e → cells_of (with_cells p e xs) e ≡ xs
cells_of_with p e xs h =
    let within = slot_of_live p e h in
    ap (λ (o : Option (List Cell)). unwrap_or o []) (get_or-set_same p.extents e.slot (Some xs) None within)

-- the cells of an extent at another slot
pub cells_of_other : (p : PoolValue) (e f : Extent) (xs : List Cell) → f.slot ≢ e.slot → cells_of (with_cells p e xs) f ≡ cells_of p f
cells_of_other p e f xs ne =
    ap (λ (o : Option (List Cell)). unwrap_or o []) (get_or-set_other p.extents e.slot f.slot (Some xs) None ne)

-- a written extent stays live
pub live_with : (p : PoolValue) (e : Extent) (xs : List Cell) → IsLive p e → length xs ≡ length (cells_of p e) → IsLive (with_cells p e xs) e
live_with p e xs h len =
    let within = slot_of_live p e h in
    record {
      live = get_or-set_same p.extents e.slot (Some xs) None within ∙ ap (λ (ys : List Cell). Some ys) (sym (cells_of_with p e xs h));
      pages = ap length (cells_of_with p e xs h) ∙ len ∙ h.pages;
    }

-- so does an extent at another slot
pub live_other : (p : PoolValue) (e f : Extent) (xs : List Cell) → IsLive p f → f.slot ≢ e.slot → IsLive (with_cells p e xs) f
live_other p e f xs h ne =
    record {
      live = get_or-set_other p.extents e.slot f.slot (Some xs) None ne ∙ h.live ∙ ap (λ (ys : List Cell). Some ys) (sym (cells_of_other p e f xs ne));
      pages = ap length (cells_of_other p e f xs ne) ∙ h.pages;
    }

-- two writes in a row are one
pub with_with : (p : PoolValue) (e : Extent) (xs ys : List Cell) → with_cells (with_cells p e xs) e ys ≡ with_cells p e ys
with_with p e xs ys =
    ap (λ (os : List (Option (List Cell))). let q : PoolValue = record { pages = p.pages; free = p.free; lent = p.lent; extents = os } in q)
    (set-set p.extents e.slot (Some xs) (Some ys))

-- an extent that was just taken is live, with empty cells
pub cells_of_taken : (p q : PoolValue) (n : ℕ) (e : Extent) → IsTaken p n q e → cells_of q e ≡ replicate (64 * n) Empty
cells_of_taken p q n e h =
    let within = h.slot in
    ap (λ (os : List (Option (List Cell))). unwrap_or (get_or os e.slot None) []) h.extents
    ∙ ap (λ (o : Option (List Cell)). unwrap_or o []) (get_or-set_same p.extents e.slot (Some (replicate (64 * n) Empty)) None within)

pub live_taken : (p q : PoolValue) (n : ℕ) (e : Extent) → IsTaken p n q e → IsLive q e
live_taken p q n e h =
    let within = h.slot in
    record {
      live = ap (λ (os : List (Option (List Cell))). get_or os e.slot None) h.extents
          ∙ get_or-set_same p.extents e.slot (Some (replicate (64 * n) Empty)) None within
          ∙ ap (λ (ys : List Cell). Some ys) (sym (cells_of_taken p q n e h));
      pages = ap length (cells_of_taken p q n e h) ∙ length-replicate (64 * n) Empty ∙ ap (λ (k : ℕ). 64 * k) (sym h.pages);
    }

-- it has another slot than each extent that was live
pub slot_apart : (p q : PoolValue) (n : ℕ) (e f : Extent) → IsTaken p n q e → IsLive p f → f.slot ≢ e.slot
slot_apart p q n e f h k =
    λ same.
    none-some (cells_of p f)
    (sym (ap (λ (s : ℕ). get_or p.extents s None) same ∙ h.vacant) ∙ k.live)

-- the other extents after one was taken
pub live_beside_taken : (p q : PoolValue) (n : ℕ) (e f : Extent) → IsTaken p n q e → IsLive p f → (IsLive q f) × (cells_of q f ≡ cells_of p f)
live_beside_taken p q n e f h k =
    let ne = slot_apart p q n e f h k in
    let same : get_or q.extents f.slot None ≡ get_or p.extents f.slot None =
    ap (λ (os : List (Option (List Cell))). get_or os f.slot None) h.extents
    ∙ get_or-set_other p.extents e.slot f.slot (Some (replicate (64 * n) Empty)) None ne in
    let cells : cells_of q f ≡ cells_of p f = ap (λ (o : Option (List Cell)). unwrap_or o []) same in (
      record {
        live = same ∙ k.live ∙ ap (λ (ys : List Cell). Some ys) (sym cells);
        pages = ap length cells ∙ k.pages;
      },
      cells,
    )

-- the other extents after one was given back
pub live_beside_back : (p q : PoolValue) (e f : Extent) → IsGivenBack p e q → IsLive p f → f.slot ≢ e.slot → (IsLive q f) × (cells_of q f ≡ cells_of p f)
live_beside_back p q e f h k ne =
    let same : get_or q.extents f.slot None ≡ get_or p.extents f.slot None =
    ap (λ (os : List (Option (List Cell))). get_or os f.slot None) h.extents
    ∙ get_or-set_other p.extents e.slot f.slot None None ne in
    let cells : cells_of q f ≡ cells_of p f = ap (λ (o : Option (List Cell)). unwrap_or o []) same in (
      record {
        live = same ∙ k.live ∙ ap (λ (ys : List Cell). Some ys) (sym cells);
        pages = ap length cells ∙ k.pages;
      },
      cells,
    )

-- how many extents are live then
pub live_extents_taken : (p q : PoolValue) (n : ℕ) (e : Extent) → IsTaken p n q e → live_extents q ≡ live_extents p + 1
live_extents_taken p q n e h =
    let f : Option (List Cell) → ℕ = λ o. cond (is_some o) 1 0 in
    let sums = sum_by-set f p.extents e.slot (Some (replicate (64 * n) Empty)) None h.slot in
    let was : f (get_or p.extents e.slot None) ≡ 0 = ap f h.vacant in
    let now : live_extents q ≡ sum_by f (set p.extents e.slot (Some (replicate (64 * n) Empty))) = ap (sum_by f) h.extents in
    let before : live_extents p ≡ sum_by f p.extents = refl in
    omega arith

-- a further write into an extent that was written
pub written_again : (p q r : PoolValue) (e : Extent) (xs : List Cell) (i : ℕ) (c : Cell)
    → IsLive p e
    → q ≡ with_cells p e xs
    → r ≡ with_cells q e (set (cells_of q e) i c)
    → r ≡ with_cells p e (set xs i c)
written_again p q r e xs i c live one two =
    two
    ∙ ap (λ (s : PoolValue). with_cells s e (set (cells_of s e) i c)) one
    ∙ ap (λ (ys : List Cell). with_cells (with_cells p e xs) e (set ys i c)) (cells_of_with p e xs live)
    ∙ with_with p e xs (set xs i c)

pub slots_taken : (p q : PoolValue) (n : ℕ) (e : Extent) → IsTaken p n q e → length q.extents ≡ length p.extents
slots_taken p q n e h = ap length h.extents ∙ length-set p.extents e.slot (Some (replicate (64 * n) Empty))

pub slots_back : (p q : PoolValue) (e : Extent) → IsGivenBack p e q → length q.extents ≡ length p.extents
slots_back p q e h = ap length h.extents ∙ length-set p.extents e.slot None

-- one extent less is live after one was given back
pub live_extents_back : (p q : PoolValue) (e : Extent) → IsGivenBack p e q → IsLive p e → live_extents q + 1 ≡ live_extents p
live_extents_back p q e h live =
    let f : Option (List Cell) → ℕ = λ o. cond (is_some o) 1 0 in
    let sums = sum_by-set f p.extents e.slot None None (slot_of_live p e live) in
    let was : f (get_or p.extents e.slot None) ≡ 1 = ap f live.live in
    let now : live_extents q ≡ sum_by f (set p.extents e.slot None) = ap (sum_by f) h.extents in
    let before : live_extents p ≡ sum_by f p.extents = refl in
    omega arith

-- as many extents are live after a write
pub live_extents_with : (p : PoolValue) (e : Extent) (xs : List Cell) → IsLive p e → live_extents (with_cells p e xs) ≡ live_extents p
live_extents_with p e xs live =
    let f : Option (List Cell) → ℕ = λ o. cond (is_some o) 1 0 in
    let sums = sum_by-set f p.extents e.slot (Some xs) None (slot_of_live p e live) in
    let was : f (get_or p.extents e.slot None) ≡ 1 = ap f live.live in
    let now : live_extents (with_cells p e xs) ≡ sum_by f (set p.extents e.slot (Some xs)) = refl in
    let before : live_extents p ≡ sum_by f p.extents = refl in
    omega arith
