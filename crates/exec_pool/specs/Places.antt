-- The table of pages: the pages of slot s stand from place 4096 * s on. The free pages that were lent before are the spare ones; the other
-- free pages were never lent, and have no number yet.
use Rattle.std.specs.Prelude.{◌≡◌, ℕ, ◌+◌, ◌-◌, ◌*◌, ◌/◌, ◌%◌, ◌<◌, ◌≤◌, ◌⊎◌, Option, None, Some, ◌&&◌, nat_le, nat_lt, if◌then◌else◌, List, length, map, slice_index, slice_index_or}
use Rattle.std.specs.List.{range_with_len, sum_by}
use Rattle.sem_query.specs.declared.cell.Cell.{Cell}
use Rattle.sem_query.specs.declared.cell.Cell.TheVariants.{Empty}

-- where the page stood that is at place q after a run of pages was copied
abbrev pub source : ℕ → ℕ → ℕ → ℕ → ℕ
source from to pages q = if nat_le to q && nat_lt q (to + pages) then from + (q - to) else q

-- the pages that a slot holds
abbrev pub held : Option ℕ → ℕ
held None = 0
held (Some pages) = pages

-- the first n pages of a slot
unfoldable pub slot_pages : List ℕ → ℕ → ℕ → List ℕ
slot_pages page_table slot n = map (λ j. slice_index page_table (slot * 4096 + j)) (range_with_len 0 n)

-- the pages, by slot
unfoldable pub lent : List ℕ → List (Option ℕ) → List (List ℕ)
lent page_table slots = map (λ s. slot_pages page_table s (held (slice_index_or slots s None))) (range_with_len 0 (length slots))

-- where cell i of a slot stands among all cells
abbrev pub cell_place : List ℕ → ℕ → ℕ → ℕ
cell_place page_table slot i = slice_index page_table (slot * 4096 + i / 64) * 64 + i % 64

-- cell i of a slot
abbrev pub cell_at : List Cell → List ℕ → ℕ → ℕ → Cell
cell_at cells page_table slot i = slice_index_or cells (cell_place page_table slot i) Empty

-- the first n cells of a slot
unfoldable pub slot_cells : List Cell → List ℕ → ℕ → ℕ → List Cell
slot_cells cells page_table slot n = map (cell_at cells page_table slot) (range_with_len 0 n)

-- the cells of a slot that holds so many pages, or that is vacant
abbrev pub extent_at : List Cell → List ℕ → ℕ → Option ℕ → Option (List Cell)
extent_at cells page_table slot None = None
extent_at cells page_table slot (Some pages) = Some (slot_cells cells page_table slot (64 * pages))

-- the extents, by slot
unfoldable pub extents : List Cell → List ℕ → List (Option ℕ) → List (Option (List Cell))
extents cells page_table slots =
    map (λ s. extent_at cells page_table s (slice_index_or slots s None)) (range_with_len 0 (length slots))

-- the page at place q: one of the table, or from place 262144 on one of the spare pages
abbrev pub page_at : List ℕ → List ℕ → ℕ → ℕ
page_at page_table spare q = if nat_lt q 262144 then slice_index page_table q else slice_index spare (q - 262144)

-- place q has a page of a live extent or a spare page
abbrev pub IsUsed : List (Option ℕ) → ℕ → ℕ → Type 0
IsUsed slots spare q =
    ((q < 262144) × (q % 4096 < held (slice_index_or slots (q / 4096) None))) ⊎ ((262144 ≤ q) × (q < 262144 + spare))

-- the pages that stand at used places are of those that were lent, and no page stands at two of them
pub record ArePages (at : ℕ → ℕ) (slots : List (Option ℕ)) (spare lent : ℕ) : Type 0 where
  pub inside : (q : ℕ) → IsUsed slots spare q → at q < lent
  pub apart : (q r : ℕ) → IsUsed slots spare q → IsUsed slots spare r → at q ≡ at r → q ≡ r

-- how many pages were ever lent
abbrev pub ever_lent : List ℕ → List (Option ℕ) → ℕ
ever_lent spare slots = length spare + sum_by held slots

-- what is true of the fields of a pool: each page that was ever lent has its cells, and is spare or held by one slot
pub record IsSound (cells : List Cell) (page_table spare : List ℕ) (slots : List (Option ℕ)) (free pages : ℕ) : Type 0 where
  pub few : pages ≤ 16384
  pub all_cells : length cells ≡ ever_lent spare slots * 64
  pub all_slots : length slots ≡ 64
  pub counted : free + sum_by held slots ≡ pages
  pub spared : length spare ≤ free
  pub reached : (s j : ℕ) → j < held (slice_index_or slots s None) → s * 4096 + j < length page_table
  pub small : (s : ℕ) → held (slice_index_or slots s None) ≤ 4096
  pub disjoint : ArePages (page_at page_table spare) slots (length spare) (ever_lent spare slots)

-- room for the cells of all pages, for all slots and for all spare pages was taken
pub record HasRoom (pages cell_room table_room spare_room : ℕ) : Type 0 where
  pub cells : pages ≤ cell_room
  pub table : 262144 ≤ table_room
  pub spare : pages ≤ spare_room
