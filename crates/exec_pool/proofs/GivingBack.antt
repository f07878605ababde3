-- An extent given back: its pages are spare, the other extents and their cells are as before.
use Rattle.std.proofs.Common.{◌≡◌, ℕ, ◌+◌, ◌-◌, ◌*◌, ◌<◌, ◌≤◌, Option, None, Some, List, length, get_or, set, refl, sym, ap, ◌∙◌, inl, inr, arith, get_or-set_same, get_or-set_other, length-set}
use Rattle.std.proofs.lemmas.Bool.{cases_eq, cases_lt}
use Rattle.sem_query.specs.declared.cell.Cell.{Cell}
use Rattle.exec_pool.specs.Places.{held, source, page_at, ever_lent, extent_at, extents, IsUsed, IsSound}
use Rattle.exec_pool.proofs.Cells.{extents_set}
use Rattle.exec_pool.proofs.Moves.{source_in, source_out, in_table, in_spare, moved, came_back}
use Rattle.std.proofs.lemmas.List.Sums.{sum_by-set}
use Rattle.exec_pool.proofs.Live.{slot_within}

-- what the code did to the fields: the pages of the slot were put behind the spare ones
pub record Returned (page_table spare spare' : List ℕ) (s n : ℕ) : Type 0 where
  pub count : length spare' ≡ length spare + n
  pub before : (k : ℕ) → k < length spare → get_or spare' k 0 ≡ get_or spare k 0
  pub back : (i : ℕ) → i < n → get_or spare' (length spare + i) 0 ≡ get_or page_table (s * 4096 + i) 0

-- the page at a used place is the one that came there
came_page : (page_table spare spare' : List ℕ) (slots : List (Option ℕ)) (s n q : ℕ)
    → Returned page_table spare spare' s n
    → s < 64
    → n ≤ 4096
    → IsUsed slots (length spare + n) q
    → page_at page_table spare' q ≡ page_at page_table spare (source (s * 4096) (262144 + length spare) n q)
came_page page_table spare spare' slots s n q returned within small (inl h) =
    let low = h.0 in
    in_table page_table spare' q low
    ∙ sym (in_table page_table spare q low)
    ∙ ap (page_at page_table spare) (sym (source_out (s * 4096) (262144 + length spare) n q (inl (omega (arith, low)))))
came_page page_table spare spare' slots s n q returned within small (inr h) =
    let low = h.0 in
    let high = h.1 in
    elim (cases_lt q (262144 + length spare)) [
      | inl below ↦
          in_spare page_table spare' q low
          ∙ returned.before (q - 262144) (omega (arith, low, below))
          ∙ sym (in_spare page_table spare q low)
          ∙ ap (page_at page_table spare) (sym (source_out (s * 4096) (262144 + length spare) n q (inl below)))
      | inr above ↦
          let i : ℕ = q - (262144 + length spare) in
          let at : q - 262144 ≡ length spare + i = omega (arith, low, above) in
          let few : i < n = omega (arith, high, above) in
          in_spare page_table spare' q low
          ∙ ap (λ (k : ℕ). get_or spare' k 0) at
          ∙ returned.back i few
          ∙ sym (in_table page_table spare (s * 4096 + i) (omega (arith, within, small, few)))
          ∙ ap (page_at page_table spare) (sym (source_in (s * 4096) (262144 + length spare) n q above (omega (arith, high))))
    ]

pub back_sound : (cells : List Cell) (page_table spare spare' : List ℕ) (slots : List (Option ℕ)) (free pages s n : ℕ)
    → IsSound cells page_table spare slots free pages
    → Returned page_table spare spare' s n
    → get_or slots s None ≡ Some n
    → IsSound cells page_table spare' (set slots s None) (free + n) pages
back_sound cells page_table spare spare' slots free pages s n sound returned is =
    let within = slot_within slots s n is in
    let len = sound.all_slots in
    let was : held (get_or slots s None) ≡ n = ap held is in
    let small = sound.small s in
    let total = sum_by-set held slots s None None within in
    let counted = sound.counted in
    let spared = sound.spared in
    let all_cells = sound.all_cells in
    let count = returned.count in
    let lent : ever_lent spare' (set slots s None) ≡ ever_lent spare slots = omega (arith, count, total, was) in
    record {
      few = sound.few;
      all_cells = omega (arith, lent, all_cells);
      all_slots = length-set slots s None ∙ sound.all_slots;
      counted = omega arith;
      spared = omega (arith, count, spared);
      reached = λ t j h.
          elim (cases_eq t s) [
            | inl e ↦
                let here : held (get_or (set slots s None) t None) ≡ 0 = rw e (ap held (get_or-set_same slots s None None within)) in
                absurd (omega (arith, h, here))
            | inr ne ↦
                let there : held (get_or (set slots s None) t None) ≡ held (get_or slots t None) = ap held (get_or-set_other slots s t None None ne) in
                sound.reached t j (omega (arith, h, there))
          ];
      small = λ t.
          elim (cases_eq t s) [
            | inl e ↦ rw e (rw (get_or-set_same slots s None None within) (omega arith))
            | inr ne ↦ rw (get_or-set_other slots s t None None ne) (sound.small t)
          ];
      disjoint = rw (lent, count)
          (moved (page_at page_table spare) (page_at page_table spare') slots (set slots s None) (length spare) (length spare + n) (ever_lent spare slots) (s * 4096) (262144 + length spare) n sound.disjoint
          (λ q h. came_page page_table spare spare' (set slots s None) s n q returned (omega arith) (omega arith) h)
          (λ q h. came_back slots (length spare) s n q was (omega arith) (omega arith) len h));
    }

pub given_back : (cells : List Cell) (page_table : List ℕ) (slots : List (Option ℕ)) (s n : ℕ)
    → get_or slots s None ≡ Some n
    → extents cells page_table (set slots s None) ≡ set (extents cells page_table slots) s None
given_back cells page_table slots s n is =
    let within = slot_within slots s n is in
    extents_set cells cells page_table page_table slots (set slots s None) s None (length-set slots s None) within
    (rw (get_or-set_same slots s None None within) refl)
    (λ t ne. rw (get_or-set_other slots s t None None ne) refl)
