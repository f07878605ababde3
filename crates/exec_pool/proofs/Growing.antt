-- Pages that were never lent become spare ones: they have empty cells, and nothing else changes.
use Rattle.std.proofs.Common.{◌≡◌, ℕ, ◌+◌, ◌-◌, ◌*◌, ◌/◌, ◌%◌, ◌<◌, ◌≤◌, Option, None, Some, List, length, get_or, refl, sym, ap, ◌∙◌, inl, inr, arith}
use Rattle.std.specs.List.{sum_by}
use Rattle.std.proofs.lemmas.List.{ext_get_or}
use Rattle.std.proofs.lemmas.Bool.{cases_lt}
use Rattle.sem_query.specs.declared.cell.Cell.{Cell}
use Rattle.sem_query.specs.declared.cell.Cell.TheVariants.{Empty}
use Rattle.exec_pool.specs.Places.{held, page_at, ever_lent, cell_place, extent_at, extents, IsUsed, IsSound}
use Rattle.exec_pool.proofs.Cells.{slot_cells_agree, length-extents, get_or-extents}
use Rattle.exec_pool.proofs.Moves.{in_table, in_spare}

-- what the code did to the fields
pub record Grown (cells cells' : List Cell) (spare spare' : List ℕ) (n : ℕ) : Type 0 where
  pub cell_count : length cells' ≡ length cells + n * 64
  pub same : (q : ℕ) → get_or cells' q Empty ≡ get_or cells q Empty
  pub spare_count : length spare' ≡ length spare + n
  pub before : (k : ℕ) → k < length spare → get_or spare' k 0 ≡ get_or spare k 0
  pub fresh : (i : ℕ) → i < n → get_or spare' (length spare + i) 0 * 64 ≡ length cells + i * 64

-- a used place was used before, or has a page that was never lent
data Grew (page_table spare spare' : List ℕ) (slots : List (Option ℕ)) (n q : ℕ) : Type 0 where
  old : IsUsed slots (length spare) q → page_at page_table spare' q ≡ page_at page_table spare q → Grew page_table spare spare' slots n q
  added : (i : ℕ) → i < n → q ≡ 262144 + (length spare + i) → page_at page_table spare' q ≡ ever_lent spare slots + i → Grew page_table spare spare' slots n q

grew : (cells cells' : List Cell) (page_table spare spare' : List ℕ) (slots : List (Option ℕ)) (free pages n q : ℕ)
    → IsSound cells page_table spare slots free pages
    → Grown cells cells' spare spare' n
    → IsUsed slots (length spare') q
    → Grew page_table spare spare' slots n q
grew cells cells' page_table spare spare' slots free pages n q sound grown (inl h) =
    old (inl h) (in_table page_table spare' q h.0 ∙ sym (in_table page_table spare q h.0))
grew cells cells' page_table spare spare' slots free pages n q sound grown (inr h) =
    elim (cases_lt (q - 262144) (length spare)) [
      | inl below ↦
          old (inr (h.0, omega (arith, h.0, below)))
          (in_spare page_table spare' q h.0 ∙ grown.before (q - 262144) below ∙ sym (in_spare page_table spare q h.0))
      | inr above ↦
          let i : ℕ = q - 262144 - length spare in
          let low = h.0 in
          let high = h.1 in
          let count = grown.spare_count in
          let cells_count = sound.all_cells in
          let few : i < n = omega (arith, low, high, above, count) in
          let at : q - 262144 ≡ length spare + i = omega (arith, low, above) in
          let page = grown.fresh i few in
          let number : get_or spare' (length spare + i) 0 ≡ ever_lent spare slots + i = omega (arith, page, cells_count) in
          added i few (omega (arith, low, above)) (in_spare page_table spare' q low ∙ ap (λ (k : ℕ). get_or spare' k 0) at ∙ number)
    ]

inside : (cells : List Cell) (page_table spare spare' : List ℕ) (slots : List (Option ℕ)) (free pages n q : ℕ)
    → IsSound cells page_table spare slots free pages
    → length spare' ≡ length spare + n
    → Grew page_table spare spare' slots n q
    → page_at page_table spare' q < ever_lent spare' slots
inside cells page_table spare spare' slots free pages n q sound count (old used same) =
    let below = sound.disjoint.inside q used in
    omega (arith, below, same, count)
inside cells page_table spare spare' slots free pages n q sound count (added i few at page) = omega (arith, few, page, count)

apart : (cells : List Cell) (page_table spare spare' : List ℕ) (slots : List (Option ℕ)) (free pages n q r : ℕ)
    → IsSound cells page_table spare slots free pages
    → Grew page_table spare spare' slots n q
    → Grew page_table spare spare' slots n r
    → page_at page_table spare' q ≡ page_at page_table spare' r
    → q ≡ r
apart cells page_table spare spare' slots free pages n q r sound (old used same) (old used' same') e = sound.disjoint.apart q r used used' (sym same ∙ e ∙ same')
apart cells page_table spare spare' slots free pages n q r sound (old used same) (added i few at page) e =
    let below = sound.disjoint.inside q used in
    absurd (omega (arith, below, same, page, e))
apart cells page_table spare spare' slots free pages n q r sound (added i few at page) (old used same) e =
    let below = sound.disjoint.inside r used in
    absurd (omega (arith, below, same, page, e))
apart cells page_table spare spare' slots free pages n q r sound (added i few at page) (added j few' at' page') e =
    omega (arith, page, page', e, at, at')

pub grown_sound : (cells cells' : List Cell) (page_table spare spare' : List ℕ) (slots : List (Option ℕ)) (free pages n : ℕ)
    → IsSound cells page_table spare slots free pages
    → Grown cells cells' spare spare' n
    → length spare + n ≤ free
    → IsSound cells' page_table spare' slots free pages
grown_sound cells cells' page_table spare spare' slots free pages n sound grown room =
    let count = grown.spare_count in
    let cell_count = grown.cell_count in
    let all_cells = sound.all_cells in
    record {
      few = sound.few;
      all_cells = omega (arith, count, cell_count, all_cells);
      all_slots = sound.all_slots;
      counted = sound.counted;
      spared = omega (arith, count, room);
      reached = sound.reached;
      small = sound.small;
      disjoint = record {
        inside = λ q h. inside cells page_table spare spare' slots free pages n q sound count (grew cells cells' page_table spare spare' slots free pages n q sound grown h);
        apart = λ q r h k e.
            apart cells page_table spare spare' slots free pages n q r sound
            (grew cells cells' page_table spare spare' slots free pages n q sound grown h)
            (grew cells cells' page_table spare spare' slots free pages n r sound grown k) e;
      };
    }

-- the extents are as before
pub same_extents : (cells cells' : List Cell) (page_table : List ℕ) (slots : List (Option ℕ))
    → ((q : ℕ) → get_or cells' q Empty ≡ get_or cells q Empty)
    → extents cells' page_table slots ≡ extents cells page_table slots
same_extents cells cells' page_table slots same =
    ext_get_or None _ _ (length-extents cells' page_table slots ∙ sym (length-extents cells page_table slots))
    (λ s _. get_or-extents cells' page_table slots s ∙ at s (get_or slots s None) ∙ sym (get_or-extents cells page_table slots s))
  where
    at : (s : ℕ) (o : Option ℕ) → extent_at cells' page_table s o ≡ extent_at cells page_table s o
    at s None = refl
    at s (Some n) =
        ap (λ (xs : List Cell). Some xs)
        (slot_cells_agree cells cells' page_table page_table s (64 * n) (λ k _. same (cell_place page_table s k)))
