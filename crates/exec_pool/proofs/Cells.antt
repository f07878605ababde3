-- What a place holds, and lists that agree at each place.
use Rattle.std.proofs.Common.{◌≡◌, ℕ, ◌+◌, ◌*◌, ◌<◌, ◌≢◌, Option, None, List, [], length, get_or, set, refl, sym, ◌∙◌, inl, inr, arith, get_or-set_same, get_or-set_other, length-set}
use Rattle.std.proofs.lemmas.List.{ext_get_or, get_or_past}
use Rattle.std.proofs.lemmas.List.FromFn.{length-map-range_with_len, get_or-map-range_with_len}
use Rattle.std.proofs.lemmas.Bool.{cases_eq, cases_lt}
use Rattle.sem_query.specs.declared.cell.Cell.{Cell}
use Rattle.sem_query.specs.declared.cell.Cell.TheVariants.{Empty}
use Rattle.exec_pool.specs.Places.{held, slot_pages, lent, cell_at, slot_cells, extent_at, extents}

pub length-slot_cells : (cells : List Cell) (page_table : List ℕ) (slot n : ℕ) → length (slot_cells cells page_table slot n) ≡ n
unfolding slot_cells
length-slot_cells cells page_table slot n = length-map-range_with_len (cell_at cells page_table slot) 0 n

pub get_or-slot_cells : (cells : List Cell) (page_table : List ℕ) (slot n k : ℕ) (d : Cell)
    → k < n → get_or (slot_cells cells page_table slot n) k d ≡ cell_at cells page_table slot k
unfolding slot_cells
get_or-slot_cells cells page_table slot n k d h = get_or-map-range_with_len (cell_at cells page_table slot) 0 n k k d h (omega arith)

pub length-extents : (cells : List Cell) (page_table : List ℕ) (slots : List (Option ℕ)) → length (extents cells page_table slots) ≡ length slots
unfolding extents
length-extents cells page_table slots = length-map-range_with_len (λ s. extent_at cells page_table s (get_or slots s None)) 0 (length slots)

get_or-extents_within : (cells : List Cell) (page_table : List ℕ) (slots : List (Option ℕ)) (s : ℕ)
    → s < length slots → get_or (extents cells page_table slots) s None ≡ extent_at cells page_table s (get_or slots s None)
unfolding extents
get_or-extents_within cells page_table slots s h =
    get_or-map-range_with_len (λ t. extent_at cells page_table t (get_or slots t None)) 0 (length slots) s s None h (omega arith)

-- at each slot, live or not, and beyond the last one
pub get_or-extents : (cells : List Cell) (page_table : List ℕ) (slots : List (Option ℕ)) (s : ℕ)
    → get_or (extents cells page_table slots) s None ≡ extent_at cells page_table s (get_or slots s None)
get_or-extents cells page_table slots s =
    elim (cases_lt s (length slots)) [
      | inl h ↦ get_or-extents_within cells page_table slots s h
      | inr h ↦
          let l = length-extents cells page_table slots in
          rw (get_or_past slots s None h) (get_or_past (extents cells page_table slots) s None (omega arith))
    ]

pub length-slot_pages : (page_table : List ℕ) (slot n : ℕ) → length (slot_pages page_table slot n) ≡ n
unfolding slot_pages
length-slot_pages page_table slot n = length-map-range_with_len (λ j. get_or page_table (slot * 4096 + j) 0) 0 n

pub get_or-slot_pages : (page_table : List ℕ) (slot n j : ℕ) → j < n → get_or (slot_pages page_table slot n) j 0 ≡ get_or page_table (slot * 4096 + j) 0
unfolding slot_pages
get_or-slot_pages page_table slot n j h =
    get_or-map-range_with_len (λ k. get_or page_table (slot * 4096 + k) 0) 0 n j j 0 h (omega arith)

no_pages : (page_table : List ℕ) (slot : ℕ) → slot_pages page_table slot 0 ≡ []
unfolding slot_pages
no_pages page_table slot = refl

pub length-lent : (page_table : List ℕ) (slots : List (Option ℕ)) → length (lent page_table slots) ≡ length slots
unfolding lent
length-lent page_table slots = length-map-range_with_len (λ s. slot_pages page_table s (held (get_or slots s None))) 0 (length slots)

get_or-lent_within : (page_table : List ℕ) (slots : List (Option ℕ)) (s : ℕ)
    → s < length slots → get_or (lent page_table slots) s [] ≡ slot_pages page_table s (held (get_or slots s None))
unfolding lent
get_or-lent_within page_table slots s h =
    get_or-map-range_with_len (λ t. slot_pages page_table t (held (get_or slots t None))) 0 (length slots) s s [] h (omega arith)

-- at each slot, live or not, and beyond the last one
pub get_or-lent : (page_table : List ℕ) (slots : List (Option ℕ)) (s : ℕ)
    → get_or (lent page_table slots) s [] ≡ slot_pages page_table s (held (get_or slots s None))
get_or-lent page_table slots s =
    elim (cases_lt s (length slots)) [
      | inl h ↦ get_or-lent_within page_table slots s h
      | inr h ↦
          let l = length-lent page_table slots in
          rw (get_or_past slots s None h, get_or_past (lent page_table slots) s [] (omega arith)) (sym (no_pages page_table s))
    ]

-- a slot's pages agree where each of them does
pub slot_pages_agree : (page_table page_table' : List ℕ) (slot n : ℕ)
    → ((j : ℕ) → j < n → get_or page_table' (slot * 4096 + j) 0 ≡ get_or page_table (slot * 4096 + j) 0)
    → slot_pages page_table' slot n ≡ slot_pages page_table slot n
slot_pages_agree page_table page_table' slot n h =
    let l = length-slot_pages page_table slot n in
    let l' = length-slot_pages page_table' slot n in
    ext_get_or 0 _ _ (l' ∙ sym l)
    (λ j below.
    let within : j < n = omega arith in
    get_or-slot_pages page_table' slot n j within ∙ h j within ∙ sym (get_or-slot_pages page_table slot n j within))

-- two slots' cells agree where each of them does
pub slot_cells_agree : (cells cells' : List Cell) (page_table page_table' : List ℕ) (slot n : ℕ)
    → ((k : ℕ) → k < n → cell_at cells' page_table' slot k ≡ cell_at cells page_table slot k)
    → slot_cells cells' page_table' slot n ≡ slot_cells cells page_table slot n
slot_cells_agree cells cells' page_table page_table' slot n h =
    let l = length-slot_cells cells page_table slot n in
    let l' = length-slot_cells cells' page_table' slot n in
    ext_get_or Empty _ _ (l' ∙ sym l)
    (λ k below.
    let within : k < n = omega arith in
    get_or-slot_cells cells' page_table' slot n k Empty within
    ∙ h k within
    ∙ sym (get_or-slot_cells cells page_table slot n k Empty within))

-- a list of extents that agrees with another at every other slot
pub extents_set : (cells cells' : List Cell) (page_table page_table' : List ℕ) (slots slots' : List (Option ℕ)) (s : ℕ) (v : Option (List Cell))
    → length slots' ≡ length slots
    → s < length slots
    → extent_at cells' page_table' s (get_or slots' s None) ≡ v
    → ((t : ℕ) → t ≢ s → extent_at cells' page_table' t (get_or slots' t None) ≡ extent_at cells page_table t (get_or slots t None))
    → extents cells' page_table' slots' ≡ set (extents cells page_table slots) s v
extents_set cells cells' page_table page_table' slots slots' s v len within here others =
    let l = length-extents cells page_table slots in
    let l' = length-extents cells' page_table' slots' in
    ext_get_or None _ _ (l' ∙ len ∙ sym l ∙ sym (length-set (extents cells page_table slots) s v))
    (λ t _.
    get_or-extents cells' page_table' slots' t
    ∙ elim (cases_eq t s) [
      | inl e ↦
          let inside : s < length (extents cells page_table slots) = omega arith in
          rw e (here ∙ sym (get_or-set_same (extents cells page_table slots) s v None inside))
      | inr ne ↦
          others t ne
          ∙ sym (get_or-extents cells page_table slots t)
          ∙ sym (get_or-set_other (extents cells page_table slots) s t v None ne)
    ])
