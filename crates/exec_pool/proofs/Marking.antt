-- What a word of marks tells of the cells of its page.
use Rattle.std.proofs.Common.{◌≡◌, ℕ, ◌+◌, ◌*◌, ◌/◌, ◌%◌, ◌<◌, ◌≤◌, List, length, get_or, Option, None, Some, MatchOption, refl, sym, ap, ◌∙◌, arith}
use Rattle.std.specs.Int.{bit_at}
use Rattle.std.proofs.lemmas.List.{get_or_default}
use Rattle.sem_query.specs.declared.cell.Cell.{Cell}
use Rattle.sem_query.specs.declared.cell.Cell.TheVariants.{Empty, Count, Present, Extreme}
use Rattle.exec_pool.specs.Marks.{mark, AreMarked}
use Rattle.exec_pool.specs.Places.{cell_at, cell_place}

-- a cell without a mark is empty
unmarked : (c : Cell) → mark c ≡ 0 → c ≡ Empty
unmarked Empty h = refl
unmarked (Count n) h = absurd (omega arith)
unmarked Present h = absurd (omega arith)
unmarked (Extreme v) h = absurd (omega arith)

-- a cell with a mark is not
marked : (c : Cell) → mark c ≡ 1 → c ≡ Empty → ⊥
marked c h e = absurd (let z : mark c ≡ 0 = ap mark e in omega arith)

-- the bit of a cell further on in the same page
mark_on : (cells : List Cell) (marks : List ℕ) (place j word : ℕ)
    → AreMarked cells marks
    → place < length cells
    → word ≡ get_or marks (place / 64) word
    → place % 64 + j < 64
    → bit_at word (place % 64 + j) ≡ mark (get_or cells (place + j) Empty)
mark_on cells marks place j word m inside read h =
    let pages = m.pages in
    let own : word ≡ get_or marks (place / 64) 0 = read ∙ get_or_default marks (place / 64) word 0 (omega arith) in
    let page : (place + j) / 64 ≡ place / 64 = omega arith in
    let bit : (place + j) % 64 ≡ place % 64 + j = omega arith in
    let told = m.told (place + j) in
    ap (λ (w : ℕ). bit_at w (place % 64 + j)) own ∙ (rw (page, bit) at told)

-- the first bit that is set tells the first cell that is not empty
pub first_marked : (cells : List Cell) (marks : List ℕ) (place count word : ℕ) (found : Option ℕ)
    → AreMarked cells marks
    → place < length cells
    → place % 64 + count ≤ 64
    → word ≡ get_or marks (place / 64) word
    → MatchOption found ((k : ℕ) → k < count → bit_at word (place % 64 + k) ≡ 0) (λ k. (k < count) × ((j : ℕ) → j < k → bit_at word (place % 64 + j) ≡ 0) × (bit_at word (place % 64 + k) ≡ 1))
    → MatchOption found ((k : ℕ) → k < count → get_or cells (place + k) Empty ≡ Empty) (λ k. (k < count) × ((j : ℕ) → j < k → get_or cells (place + j) Empty ≡ Empty) × (get_or cells (place + k) Empty ≡ Empty → ⊥))
first_marked cells marks place count word None m inside page read bits =
    λ k h. unmarked _ (sym (mark_on cells marks place k word m inside read (omega (arith, h))) ∙ bits k h)
first_marked cells marks place count word (Some n) m inside page read bits = (
  bits.0,
  λ j h. unmarked _ (sym (mark_on cells marks place j word m inside read (omega (arith, h, bits.0))) ∙ bits.1 j h),
  marked _ (sym (mark_on cells marks place n word m inside read (omega (arith, bits.0))) ∙ bits.2),
)

-- cells side by side on one page
pub side_by_side : (cells : List Cell) (page_table : List ℕ) (slot number start count : ℕ)
    → start ≡ cell_place page_table slot number
    → number % 64 + count ≤ 64
    → (j : ℕ) → j < count → get_or cells (start + j) Empty ≡ cell_at cells page_table slot (number + j)
side_by_side cells page_table slot number start count at page j h =
    let same : (number + j) / 64 ≡ number / 64 = omega arith in
    let look : get_or page_table (slot * 4096 + (number + j) / 64) 0 ≡ get_or page_table (slot * 4096 + number / 64) 0 = ap (λ (k : ℕ). get_or page_table (slot * 4096 + k) 0) same in
    let place : start + j ≡ cell_place page_table slot (number + j) = omega arith in
    ap (λ (p : ℕ). get_or cells p Empty) place
