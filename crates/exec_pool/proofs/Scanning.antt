-- A scan over the cells of a slot is one over the cells of its extent, and may go by pages.
use Rattle.std.proofs.Common.{◌≡◌, ℕ, ◌+◌, ◌-◌, ◌*◌, ◌<◌, ◌≤◌, ◌^◌, Option, None, Some, List, get_or, sym, ap, ◌∙◌, inl, inr, arith}
use Rattle.std.proofs.lemmas.Bool.{cases_lt}
use Rattle.sem_query.specs.declared.cell.Cell.{Cell}
use Rattle.sem_query.specs.declared.cell.Cell.TheVariants.{Empty}
use Rattle.exec_pool.specs.declared.pool.Extent.{Extent}
use Rattle.exec_pool.specs.declared.scan.Occupied.{Occupied}
use Rattle.exec_pool.specs.Places.{lent, cell_at, extents, IsSound}
use Rattle.exec_pool.specs.Extents.{cells_of, IsLive}
use Rattle.exec_pool.specs.Strides.{NoneOccupied, IsFirst, Scanned, HasPage}
use Rattle.exec_pool.proofs.Cells.{get_or-slot_cells}
use Rattle.exec_pool.proofs.Live.{has_slot, slot_bounds, place_within}

-- a run of empty cells behind empty ones
pub empty_on : (at here : ℕ → Cell) (first from i k : ℕ)
    → NoneOccupied (λ n. at (first + n)) from i
    → ((j : ℕ) → j < k → here j ≡ at (first + i + j))
    → ((j : ℕ) → j < k → here j ≡ Empty)
    → NoneOccupied (λ n. at (first + n)) from (i + k)
empty_on at here first from i k old same empty n a b =
    elim (cases_lt n i) [
      | inl h ↦ old n a h
      | inr h ↦
          let e : first + n ≡ first + i + (n - i) = omega arith in
          let below : n - i < k = omega arith in
          ap at e ∙ sym (same (n - i) below) ∙ empty (n - i) below
    ]

-- a run in which one cell is not empty, behind empty ones
pub first_on : (at here : ℕ → Cell) (first from to i k n : ℕ) (cell : Cell)
    → NoneOccupied (λ n. at (first + n)) from i
    → ((j : ℕ) → j < n → here j ≡ at (first + i + j))
    → ((j : ℕ) → j < k → here j ≡ Empty)
    → (here k ≡ Empty → ⊥)
    → cell ≡ here k
    → k < n
    → from ≤ i
    → i + n ≤ to
    → IsFirst (λ m. at (first + m)) from to (record { next = i + k; cell = cell })
first_on at here first from to i k n cell old same empty occupied read within a b =
    record {
      after = omega arith;
      below = omega arith;
      before = empty_on at here first from i k old (λ j h. same j (omega arith)) empty;
      cell = (let e : first + (i + k) ≡ first + i + k = omega arith in ap at e ∙ sym (same k within) ∙ sym read);
      some = λ h. occupied (sym read ∙ h);
    }

-- cells that agree are scanned alike
pub scanned_same : (at at' : ℕ → Cell) (from to before : ℕ) (found : Option Occupied) (after : ℕ)
    → ((i : ℕ) → i < to → at i ≡ at' i)
    → Scanned at from to before found after
    → Scanned at' from to before found after
scanned_same at at' from to before None after same s = (λ i a b. sym (same i b) ∙ s.0 i a b, s.1)
scanned_same at at' from to before (Some occupied) after same s = (
  record {
    after = s.0.after;
    below = s.0.below;
    before = λ i a b. sym (same i (omega (arith, b, s.0.below))) ∙ s.0.before i a b;
    cell = sym (same occupied.next s.0.below) ∙ s.0.cell;
    some = s.0.some;
  },
  s.1,
)

-- what a scan asks of a cell of a live extent, and what it sees there
pub record IsSeen (cells : List Cell) (page_table : List ℕ) (slots : List (Option ℕ)) (free pages : ℕ) (e : Extent) (i : ℕ) : Type 0 where
  pub slot : e.slot < 64
  pub small : i < 2 ^ 32
  pub page : HasPage cells page_table e.slot i
  pub cell : cell_at cells page_table e.slot i ≡ get_or (cells_of (record { pages = pages; free = free; lent = lent page_table slots; extents = extents cells page_table slots }) e) i Empty

pub is_seen : (cells : List Cell) (page_table spare : List ℕ) (slots : List (Option ℕ)) (free pages : ℕ) (e : Extent) (i : ℕ)
    → IsSound cells page_table spare slots free pages
    → IsLive (record { pages = pages; free = free; lent = lent page_table slots; extents = extents cells page_table slots }) e
    → i < 64 * e.pages
    → IsSeen cells page_table slots free pages e i
is_seen cells page_table spare slots free pages e i sound live hi =
    let has = has_slot cells page_table slots free pages e live in
    let room = slot_bounds cells page_table spare slots free pages e.slot e.pages sound has.slot in
    let within = place_within cells page_table spare slots free pages e.slot e.pages i sound has.slot hi in
    let all = sound.all_cells in
    let small = room.small in
    record {
      slot = room.few;
      small = omega arith;
      page = record { table = within.0; page = omega arith };
      cell = sym (get_or-slot_cells cells page_table e.slot (64 * e.pages) i Empty hi) ∙ ap (λ (xs : List Cell). get_or xs i Empty) (sym has.content);
    }

-- side by side is one apart
pub one_apart : (first stride i : ℕ) → stride ≡ 1 → first + i * stride ≡ first + i
one_apart first stride i e = rw e (omega arith)
