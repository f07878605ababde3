-- What the table holds of a live extent, and that different cells of extents stand at different places.
use Rattle.std.proofs.Common.{◌≡◌, ℕ, ◌+◌, ◌*◌, ◌/◌, ◌%◌, ◌<◌, ◌≤◌, Option, None, Some, List, length, get_or, sym, ap, ◌∙◌, inl, inr, arith}
use Rattle.std.proofs.lemmas.List.{get_or_past, get_or_default}
use Rattle.std.proofs.lemmas.List.Sums.{get_or-le-sum_by}
use Rattle.std.proofs.lemmas.Bool.{cases_lt}
use Rattle.std.proofs.lemmas.Option.{same_Some, none-some}
use Rattle.sem_query.specs.declared.cell.Cell.{Cell}
use Rattle.sem_query.specs.declared.cell.Cell.TheVariants.{Empty}
use Rattle.exec_pool.specs.declared.pool.Extent.{Extent}
use Rattle.exec_pool.specs.Places.{held, lent, ever_lent, cell_place, slot_cells, extent_at, extents, IsSound}
use Rattle.exec_pool.specs.Extents.{cells_of, IsLive}
use Rattle.exec_pool.proofs.Cells.{length-slot_cells, get_or-slot_cells, get_or-extents}
use Rattle.exec_pool.proofs.Moves.{used_slot, in_table}

-- the slot of an extent that the view shows as live
pub record HasSlot (cells : List Cell) (page_table : List ℕ) (slots : List (Option ℕ)) (free pages : ℕ) (e : Extent) : Type 0 where
  pub slot : get_or slots e.slot None ≡ Some e.pages
  pub content : cells_of (record { pages = pages; free = free; lent = lent page_table slots; extents = extents cells page_table slots }) e ≡ slot_cells cells page_table e.slot (64 * e.pages)

shown : (cells : List Cell) (page_table : List ℕ) (s pages : ℕ) (o : Option ℕ) (xs : List Cell)
    → extent_at cells page_table s o ≡ Some xs
    → length xs ≡ 64 * pages
    → (o ≡ Some pages) × (xs ≡ slot_cells cells page_table s (64 * pages))
shown cells page_table s pages None xs e l = absurd (none-some xs e)
shown cells page_table s pages (Some m) xs e l =
    let same : slot_cells cells page_table s (64 * m) ≡ xs = same_Some _ _ e in
    let len : 64 * m ≡ 64 * pages = sym (length-slot_cells cells page_table s (64 * m)) ∙ ap length same ∙ l in
    let equal : m ≡ pages = omega arith in
    (ap (λ (k : ℕ). Some k) equal, rw (← equal) (sym same))

pub has_slot : (cells : List Cell) (page_table : List ℕ) (slots : List (Option ℕ)) (free pages : ℕ) (e : Extent)
    → IsLive (record { pages = pages; free = free; lent = lent page_table slots; extents = extents cells page_table slots }) e
    → HasSlot cells page_table slots free pages e
has_slot cells page_table slots free pages e h =
    let s = shown cells page_table e.slot e.pages (get_or slots e.slot None) (cells_of (record { pages = pages; free = free; lent = lent page_table slots; extents = extents cells page_table slots }) e) (sym (get_or-extents cells page_table slots e.slot) ∙ h.live) h.pages in
    record { slot = s.0; content = s.1 }

pub slot_within : (slots : List (Option ℕ)) (s m : ℕ) → get_or slots s None ≡ Some m → s < length slots
slot_within slots s m e =
    elim (cases_lt s (length slots)) [
      | inl h ↦ h
      | inr h ↦ absurd (none-some m (sym (get_or_past slots s None h) ∙ e))
    ]

pub held_within : (slots : List (Option ℕ)) (s i : ℕ) → i < held (get_or slots s None) → s < length slots
held_within slots s i h =
    elim (cases_lt s (length slots)) [
      | inl within ↦ within
      | inr past ↦ let none : held (get_or slots s None) ≡ 0 = ap held (get_or_past slots s None past) in absurd (omega arith)
    ]

-- a page of a slot was lent
pub page_inside : (cells : List Cell) (page_table spare : List ℕ) (slots : List (Option ℕ)) (free pages s j : ℕ)
    → IsSound cells page_table spare slots free pages
    → j < held (get_or slots s None)
    → get_or page_table (s * 4096 + j) 0 < ever_lent spare slots
page_inside cells page_table spare slots free pages s j sound h =
    let within = held_within slots s j h in
    let len = sound.all_slots in
    let small = sound.small s in
    rw (sym (in_table page_table spare (s * 4096 + j) (omega arith)))
    (sound.disjoint.inside (s * 4096 + j) (used_slot slots (length spare) s j (omega arith) (omega arith) h))

-- one page, one place of one slot
pub page_apart : (cells : List Cell) (page_table spare : List ℕ) (slots : List (Option ℕ)) (free pages s t j k : ℕ)
    → IsSound cells page_table spare slots free pages
    → j < held (get_or slots s None)
    → k < held (get_or slots t None)
    → get_or page_table (s * 4096 + j) 0 ≡ get_or page_table (t * 4096 + k) 0
    → (s ≡ t) × (j ≡ k)
page_apart cells page_table spare slots free pages s t j k sound hj hk e =
    let within = held_within slots s j hj in
    let within' = held_within slots t k hk in
    let len = sound.all_slots in
    let small = sound.small s in
    let small' = sound.small t in
    let us = used_slot slots (length spare) s j (omega arith) (omega arith) hj in
    let ut = used_slot slots (length spare) t k (omega arith) (omega arith) hk in
    let q : s * 4096 + j ≡ t * 4096 + k =
    sound.disjoint.apart (s * 4096 + j) (t * 4096 + k) us ut
    (in_table page_table spare (s * 4096 + j) (omega arith) ∙ e ∙ sym (in_table page_table spare (t * 4096 + k) (omega arith))) in
    (omega arith, omega arith)

-- one place, one cell of one slot
pub place_apart : (cells : List Cell) (page_table spare : List ℕ) (slots : List (Option ℕ)) (free pages s t m n i k : ℕ)
    → IsSound cells page_table spare slots free pages
    → get_or slots s None ≡ Some m
    → get_or slots t None ≡ Some n
    → i < 64 * m
    → k < 64 * n
    → cell_place page_table s i ≡ cell_place page_table t k
    → (s ≡ t) × (i ≡ k)
place_apart cells page_table spare slots free pages s t m n i k sound es et hi hk e =
    let sm : held (get_or slots s None) ≡ m = ap held es in
    let tn : held (get_or slots t None) ≡ n = ap held et in
    let same : get_or page_table (s * 4096 + i / 64) 0 ≡ get_or page_table (t * 4096 + k / 64) 0 = omega arith in
    let equal = page_apart cells page_table spare slots free pages s t (i / 64) (k / 64) sound (omega arith) (omega arith) same in
    let page = equal.1 in
    (equal.0, omega (arith, page, e, same))

-- a cell of a slot stands among all cells
pub place_within : (cells : List Cell) (page_table spare : List ℕ) (slots : List (Option ℕ)) (free pages s m i : ℕ)
    → IsSound cells page_table spare slots free pages
    → get_or slots s None ≡ Some m
    → i < 64 * m
    → (s * 4096 + i / 64 < length page_table) × (cell_place page_table s i < length cells)
place_within cells page_table spare slots free pages s m i sound es hi =
    let sm : held (get_or slots s None) ≡ m = ap held es in
    let h : i / 64 < held (get_or slots s None) = omega arith in
    let inside = page_inside cells page_table spare slots free pages s (i / 64) sound h in
    let count = sound.all_cells in
    (sound.reached s (i / 64) h, omega arith)

-- a place of the table that was read
pub read_place : (page_table : List ℕ) (slot first i page at : ℕ)
    → first ≡ slot
    → slot * 4096 + i / 64 < length page_table
    → page ≡ get_or page_table (first * 4096 + i / 64) page
    → at ≡ page
    → at * 64 + i % 64 ≡ cell_place page_table slot i
read_place page_table slot first i page at e within read same =
    let here : first * 4096 + i / 64 < length page_table = rw e within in
    let is : page ≡ get_or page_table (slot * 4096 + i / 64) 0 =
    rw e at (read ∙ get_or_default page_table (first * 4096 + i / 64) page 0 here) in
    omega arith

-- a cell that was read is the extent's
pub read_cell : (cells : List Cell) (page_table spare : List ℕ) (slots : List (Option ℕ)) (free pages i q : ℕ) (e : Extent) (x d : Cell)
    → IsSound cells page_table spare slots free pages
    → IsLive (record { pages = pages; free = free; lent = lent page_table slots; extents = extents cells page_table slots }) e
    → i < 64 * e.pages
    → q ≡ cell_place page_table e.slot i
    → x ≡ get_or cells q Empty
    → x ≡ get_or (cells_of (record { pages = pages; free = free; lent = lent page_table slots; extents = extents cells page_table slots }) e) i d
read_cell cells page_table spare slots free pages i q e x d sound live hi same read =
    let has = has_slot cells page_table slots free pages e live in
    read
    ∙ ap (λ (p : ℕ). get_or cells p Empty) same
    ∙ sym (get_or-slot_cells cells page_table e.slot (64 * e.pages) i d hi)
    ∙ ap (λ (xs : List Cell). get_or xs i d) (sym has.content)

-- the bounds of a live slot
pub record SlotBounds (spare : List ℕ) (slots : List (Option ℕ)) (pages s n : ℕ) : Type 0 where
  pub slot : s < length slots
  pub few : s < 64
  pub small : n ≤ 4096
  pub room : length spare + n ≤ pages

pub slot_bounds : (cells : List Cell) (page_table spare : List ℕ) (slots : List (Option ℕ)) (free pages s n : ℕ)
    → IsSound cells page_table spare slots free pages → get_or slots s None ≡ Some n → SlotBounds spare slots pages s n
slot_bounds cells page_table spare slots free pages s n sound e =
    let within = slot_within slots s n e in
    let is : held (get_or slots s None) ≡ n = ap held e in
    let part = get_or-le-sum_by held slots s None within in
    let counted = sound.counted in
    let spared = sound.spared in
    let len = sound.all_slots in
    let small = sound.small s in
    record { slot = within; few = omega arith; small = omega arith; room = omega arith }
