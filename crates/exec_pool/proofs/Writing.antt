-- A write changes that cell and no other cell of any extent.
use Rattle.std.proofs.Common.{◌≡◌, ℕ, ◌*◌, ◌<◌, ◌≢◌, Option, None, Some, List, length, get_or, set, refl, sym, ap, ◌∙◌, inl, inr, arith, get_or-set_same, get_or-set_other, length-set}
use Rattle.std.proofs.lemmas.List.{ext_get_or}
use Rattle.std.proofs.lemmas.Bool.{cases_eq}
use Rattle.sem_query.specs.declared.cell.Cell.{Cell}
use Rattle.sem_query.specs.declared.cell.Cell.TheVariants.{Empty}
use Rattle.exec_pool.specs.declared.pool.Extent.{Extent}
use Rattle.exec_pool.specs.Places.{lent, cell_place, cell_at, slot_cells, extent_at, extents, IsSound}
use Rattle.exec_pool.specs.Extents.{PoolValue, cells_of, with_cells, IsLive}
use Rattle.exec_pool.proofs.Cells.{length-slot_cells, get_or-slot_cells, slot_cells_agree, extents_set}
use Rattle.exec_pool.proofs.Live.{has_slot, slot_within, place_apart, place_within}

-- another cell of any slot is as before
pub kept : (cells : List Cell) (page_table spare : List ℕ) (slots : List (Option ℕ)) (free pages s t m n i k : ℕ) (c : Cell)
    → IsSound cells page_table spare slots free pages
    → get_or slots s None ≡ Some m
    → get_or slots t None ≡ Some n
    → i < 64 * m
    → k < 64 * n
    → ((s ≡ t) × (i ≡ k) → ⊥)
    → cell_at (set cells (cell_place page_table s i) c) page_table t k ≡ cell_at cells page_table t k
kept cells page_table spare slots free pages s t m n i k c sound es et hi hk ne =
    get_or-set_other cells (cell_place page_table s i) (cell_place page_table t k) c Empty
    (λ e. ne (place_apart cells page_table spare slots free pages s t m n i k sound es et hi hk (sym e)))

-- the slot's own cells
pub own : (cells : List Cell) (page_table spare : List ℕ) (slots : List (Option ℕ)) (free pages s m i : ℕ) (c : Cell)
    → IsSound cells page_table spare slots free pages
    → get_or slots s None ≡ Some m
    → i < 64 * m
    → slot_cells (set cells (cell_place page_table s i) c) page_table s (64 * m) ≡ set (slot_cells cells page_table s (64 * m)) i c
own cells page_table spare slots free pages s m i c sound es hi =
    let l = length-slot_cells cells page_table s (64 * m) in
    let l' = length-slot_cells (set cells (cell_place page_table s i) c) page_table s (64 * m) in
    ext_get_or Empty _ _ (l' ∙ sym l ∙ sym (length-set (slot_cells cells page_table s (64 * m)) i c))
    (λ k below.
    let hk : k < 64 * m = omega arith in
    get_or-slot_cells (set cells (cell_place page_table s i) c) page_table s (64 * m) k Empty hk
    ∙ elim (cases_eq k i) [
      | inl e ↦
          let inside = (place_within cells page_table spare slots free pages s m i sound es hi).1 in
          let within : i < length (slot_cells cells page_table s (64 * m)) = omega arith in
          rw e
          (get_or-set_same cells (cell_place page_table s i) c Empty inside
          ∙ sym (get_or-set_same (slot_cells cells page_table s (64 * m)) i c Empty within))
      | inr ne ↦
          kept cells page_table spare slots free pages s s m m i k c sound es es hi hk (λ h. ne (sym h.1))
          ∙ sym (get_or-slot_cells cells page_table s (64 * m) k Empty hk)
          ∙ sym (get_or-set_other (slot_cells cells page_table s (64 * m)) i k c Empty ne)
    ])

-- another slot's cells
others : (cells : List Cell) (page_table spare : List ℕ) (slots : List (Option ℕ)) (free pages s t m i : ℕ) (c : Cell) (o : Option ℕ)
    → IsSound cells page_table spare slots free pages
    → get_or slots s None ≡ Some m
    → get_or slots t None ≡ o
    → i < 64 * m
    → t ≢ s
    → extent_at (set cells (cell_place page_table s i) c) page_table t o ≡ extent_at cells page_table t o
others cells page_table spare slots free pages s t m i c None sound es et hi ne = refl
others cells page_table spare slots free pages s t m i c (Some n) sound es et hi ne =
    ap (λ (xs : List Cell). Some xs)
    (slot_cells_agree cells (set cells (cell_place page_table s i) c) page_table page_table t (64 * n)
    (λ k hk. kept cells page_table spare slots free pages s t m n i k c sound es et hi hk (λ h. ne (sym h.0))))

-- the pool after a write
pub written : (cells : List Cell) (page_table spare : List ℕ) (slots : List (Option ℕ)) (free pages i : ℕ) (e : Extent) (c : Cell)
    → IsSound cells page_table spare slots free pages
    → IsLive (record { pages = pages; free = free; lent = lent page_table slots; extents = extents cells page_table slots }) e
    → i < 64 * e.pages
    → extents (set cells (cell_place page_table e.slot i) c) page_table slots
    ≡ set (extents cells page_table slots) e.slot
    (Some (set (cells_of (record { pages = pages; free = free; lent = lent page_table slots; extents = extents cells page_table slots }) e) i c))
written cells page_table spare slots free pages i e c sound live hi =
    let has = has_slot cells page_table slots free pages e live in
    extents_set cells (set cells (cell_place page_table e.slot i) c) page_table page_table slots slots e.slot _ refl (slot_within slots e.slot e.pages has.slot)
    (rw (has.slot, has.content) (ap (λ (xs : List Cell). Some xs) (own cells page_table spare slots free pages e.slot e.pages i c sound has.slot hi)))
    (λ t ne. others cells page_table spare slots free pages e.slot t e.pages i c (get_or slots t None) sound has.slot refl hi ne)

-- a written cell keeps the fields sound
pub written_sound : (cells cells' : List Cell) (page_table spare : List ℕ) (slots : List (Option ℕ)) (free pages : ℕ)
    → length cells' ≡ length cells
    → IsSound cells page_table spare slots free pages
    → IsSound cells' page_table spare slots free pages
written_sound cells cells' page_table spare slots free pages len sound =
    record {
      few = sound.few;
      all_cells = len ∙ sound.all_cells;
      all_slots = sound.all_slots;
      counted = sound.counted;
      spared = sound.spared;
      reached = sound.reached;
      small = sound.small;
      disjoint = sound.disjoint;
    }

-- what contracts see of it
pub written_view : (cells : List Cell) (page_table spare : List ℕ) (slots : List (Option ℕ)) (free pages i q : ℕ) (e : Extent) (c : Cell)
    → IsSound cells page_table spare slots free pages
    → IsLive (record { pages = pages; free = free; lent = lent page_table slots; extents = extents cells page_table slots }) e
    → i < 64 * e.pages
    → q ≡ cell_place page_table e.slot i
    → let now : PoolValue = record { pages = pages; free = free; lent = lent page_table slots; extents = extents cells page_table slots } in
    let new : PoolValue = record { pages = pages; free = free; lent = lent page_table slots; extents = extents (set cells q c) page_table slots } in
    new ≡ with_cells now e (set (cells_of now e) i c)
written_view cells page_table spare slots free pages i q e c sound live hi same =
    ap (λ (xs : List (Option (List Cell))). let p : PoolValue = record { pages = pages; free = free; lent = lent page_table slots; extents = xs } in p)
    (rw same (written cells page_table spare slots free pages i e c sound live hi))
