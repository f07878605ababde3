-- An extent taken: its cells are empty, the other extents and their cells are as before.
use Rattle.std.proofs.Common.{◌≡◌, ℕ, ◌+◌, ◌-◌, ◌*◌, ◌/◌, ◌%◌, ◌<◌, ◌≤◌, ◌≢◌, ◌⊎◌, Option, None, Some, List, length, get_or, set, take, replicate, refl, sym, ap, ◌∙◌, inl, inr, arith, get_or-set_same, get_or-set_other, length-set}
use Rattle.std.proofs.lemmas.List.{ext_get_or, length-replicate, get_or-replicate, get_or_past, get_or-take, length-take-le}
use Rattle.std.proofs.lemmas.Bool.{cases_eq, cases_lt}
use Rattle.sem_query.specs.declared.cell.Cell.{Cell}
use Rattle.sem_query.specs.declared.cell.Cell.TheVariants.{Empty}
use Rattle.exec_pool.specs.Places.{held, source, page_at, ever_lent, cell_place, slot_cells, extent_at, extents, IsUsed, IsSound}
use Rattle.exec_pool.proofs.Cells.{length-slot_cells, get_or-slot_cells, slot_cells_agree, extents_set}
use Rattle.exec_pool.proofs.Moves.{source_in, source_out, in_table, in_spare, moved, came_taken}
use Rattle.std.proofs.lemmas.List.Sums.{sum_by-set}
use Rattle.exec_pool.proofs.Live.{slot_within, page_apart}
use Rattle.exec_pool.proofs.Growing.{Grown, grown_sound, same_extents}

-- what the code did to the fields: the last n spare pages were moved to the slot, and the cells of each of them are empty
pub record Handed (cells cells' : List Cell) (page_table page_table' spare spare' : List ℕ) (rest s n : ℕ) : Type 0 where
  pub cell_count : length cells' ≡ length cells
  pub lent : (j : ℕ) → j < n → get_or page_table' (s * 4096 + j) 0 ≡ get_or spare (rest + j) 0
  pub kept : (q : ℕ) → (q < s * 4096) ⊎ (s * 4096 + n ≤ q) → get_or page_table' q 0 ≡ get_or page_table q 0
  pub reached : (j : ℕ) → j < n → s * 4096 + j < length page_table'
  pub longer : length page_table ≤ length page_table'
  pub left : spare' ≡ take rest spare
  pub cleared : (j q : ℕ) → j < n → q / 64 ≡ get_or page_table' (s * 4096 + j) 0 → get_or cells' q Empty ≡ Empty
  pub others : (q : ℕ) → ((j : ℕ) → j < n → q / 64 ≢ get_or page_table' (s * 4096 + j) 0) → get_or cells' q Empty ≡ get_or cells q Empty

-- the page at a used place is the one that came there
came_page : (cells cells' : List Cell) (page_table page_table' spare spare' : List ℕ) (slots : List (Option ℕ)) (rest s n q : ℕ)
    → Handed cells cells' page_table page_table' spare spare' rest s n
    → s < 64
    → n ≤ 4096
    → IsUsed slots rest q
    → page_at page_table' spare' q ≡ page_at page_table spare (source (262144 + rest) (s * 4096) n q)
came_page cells cells' page_table page_table' spare spare' slots rest s n q handed within small (inl h) =
    elim (cases_lt q (s * 4096)) [
      | inl low ↦ outside (inl low)
      | inr high ↦
          elim (cases_lt q (s * 4096 + n)) [
            | inr past ↦ outside (inr past)
            | inl below ↦
                let j : ℕ = q - s * 4096 in
                let few : j < n = omega (arith, high, below) in
                let here : s * 4096 + j ≡ q = omega (arith, high) in
                let there : 262144 + rest + j - 262144 ≡ rest + j = omega arith in
                in_table page_table' spare' q h.0
                ∙ ap (λ (k : ℕ). get_or page_table' k 0) (sym here)
                ∙ handed.lent j few
                ∙ ap (λ (k : ℕ). get_or spare k 0) (sym there)
                ∙ sym (in_spare page_table spare (262144 + rest + j) (omega arith))
                ∙ ap (page_at page_table spare) (sym (source_in (262144 + rest) (s * 4096) n q high below))
          ]
    ]
  where
    outside : (q < s * 4096) ⊎ (s * 4096 + n ≤ q) → page_at page_table' spare' q ≡ page_at page_table spare (source (262144 + rest) (s * 4096) n q)
    outside out =
        in_table page_table' spare' q h.0
        ∙ handed.kept q out
        ∙ sym (in_table page_table spare q h.0)
        ∙ ap (page_at page_table spare) (sym (source_out (262144 + rest) (s * 4096) n q out))
came_page cells cells' page_table page_table' spare spare' slots rest s n q handed within small (inr h) =
    let low = h.0 in
    let high = h.1 in
    in_spare page_table' spare' q low
    ∙ ap (λ (ps : List ℕ). get_or ps (q - 262144) 0) handed.left
    ∙ get_or-take rest spare (q - 262144) 0 (omega (arith, low, high))
    ∙ sym (in_spare page_table spare q low)
    ∙ ap (page_at page_table spare) (sym (source_out (262144 + rest) (s * 4096) n q (inr (omega (arith, low, within, small)))))

pub taken_sound : (cells cells' : List Cell) (page_table page_table' spare spare' : List ℕ) (slots : List (Option ℕ)) (free pages rest s n : ℕ)
    → IsSound cells page_table spare slots free pages
    → Handed cells cells' page_table page_table' spare spare' rest s n
    → rest + n ≡ length spare
    → n ≤ 4096
    → s < length slots
    → get_or slots s None ≡ None
    → IsSound cells' page_table' spare' (set slots s (Some n)) (free - n) pages
taken_sound cells cells' page_table page_table' spare spare' slots free pages rest s n sound handed sum small within none =
    let len = sound.all_slots in
    let was : held (get_or slots s None) ≡ 0 = ap held none in
    let total = sum_by-set held slots s (Some n) None within in
    let counted = sound.counted in
    let spared = sound.spared in
    let all_cells = sound.all_cells in
    let count = handed.cell_count in
    let left : length spare' ≡ rest = ap length handed.left ∙ length-take-le rest spare (omega (arith, sum)) in
    let lent : ever_lent spare' (set slots s (Some n)) ≡ ever_lent spare slots = omega (arith, left, sum, total, was) in
    record {
      few = sound.few;
      all_cells = omega (arith, lent, count, all_cells);
      all_slots = length-set slots s (Some n) ∙ sound.all_slots;
      counted = omega arith;
      spared = omega (arith, left, sum, spared);
      reached = λ t j h.
          elim (cases_eq t s) [
            | inl e ↦
                let here : held (get_or (set slots s (Some n)) t None) ≡ n = rw e (ap held (get_or-set_same slots s (Some n) None within)) in
                rw e (handed.reached j (omega (arith, h, here)))
            | inr ne ↦
                let there : held (get_or (set slots s (Some n)) t None) ≡ held (get_or slots t None) = ap held (get_or-set_other slots s t (Some n) None ne) in
                let reached = sound.reached t j (omega (arith, h, there)) in
                let longer = handed.longer in
                omega (arith, reached, longer)
          ];
      small = λ t.
          elim (cases_eq t s) [
            | inl e ↦ rw e (rw (get_or-set_same slots s (Some n) None within) small)
            | inr ne ↦ rw (get_or-set_other slots s t (Some n) None ne) (sound.small t)
          ];
      disjoint = rw (lent, left)
          (moved (page_at page_table spare) (page_at page_table' spare') slots (set slots s (Some n)) (length spare) rest (ever_lent spare slots) (262144 + rest) (s * 4096) n sound.disjoint
          (λ q h. came_page cells cells' page_table page_table' spare spare' (set slots s (Some n)) rest s n q handed (omega arith) small h)
          (λ q h. came_taken slots (length spare) rest s n q sum small (omega arith) len h));
    }

-- the cells of the slot
fresh : (cells cells' : List Cell) (page_table page_table' spare spare' : List ℕ) (rest s n : ℕ)
    → Handed cells cells' page_table page_table' spare spare' rest s n
    → slot_cells cells' page_table' s (64 * n) ≡ replicate (64 * n) Empty
fresh cells cells' page_table page_table' spare spare' rest s n handed =
    let l = length-slot_cells cells' page_table' s (64 * n) in
    let r = length-replicate (64 * n) Empty in
    ext_get_or Empty _ _ (l ∙ sym r)
    (λ k below.
    let hk : k < 64 * n = omega arith in
    get_or-slot_cells cells' page_table' s (64 * n) k Empty hk
    ∙ handed.cleared (k / 64) (cell_place page_table' s k) (omega arith) (omega arith)
    ∙ sym (get_or-replicate (64 * n) k Empty Empty hk))

-- the cells of another slot
undisturbed : (cells cells' : List Cell) (page_table page_table' spare spare' : List ℕ) (slots : List (Option ℕ)) (free free' pages rest s n t : ℕ) (o : Option ℕ)
    → IsSound cells page_table spare slots free pages
    → IsSound cells' page_table' spare' (set slots s (Some n)) free' pages
    → Handed cells cells' page_table page_table' spare spare' rest s n
    → s < length slots
    → get_or slots t None ≡ o
    → t ≢ s
    → extent_at cells' page_table' t o ≡ extent_at cells page_table t o
undisturbed cells cells' page_table page_table' spare spare' slots free free' pages rest s n t None sound sound' handed within et ne = refl
undisturbed cells cells' page_table page_table' spare spare' slots free free' pages rest s n t (Some m) sound sound' handed within et ne =
    ap (λ (xs : List Cell). Some xs)
    (slot_cells_agree cells cells' page_table page_table' t (64 * m)
    (λ k hk.
    let tm : held (get_or slots t None) ≡ m = ap held et in
    let few = sound.small t in
    let there : held (get_or (set slots s (Some n)) t None) ≡ m = ap held (get_or-set_other slots s t (Some n) None ne) ∙ tm in
    let here : held (get_or (set slots s (Some n)) s None) ≡ n = ap held (get_or-set_same slots s (Some n) None within) in
    let most = sound'.small s in
    let out : (t * 4096 + k / 64 < s * 4096) ⊎ (s * 4096 + n ≤ t * 4096 + k / 64) =
    elim (cases_lt t s) [ inl h ↦ inl (omega arith) | inr h ↦ inr (omega arith) ] in
    let page : get_or page_table' (t * 4096 + k / 64) 0 ≡ get_or page_table (t * 4096 + k / 64) 0 = handed.kept (t * 4096 + k / 64) out in
    let place : cell_place page_table' t k ≡ cell_place page_table t k = ap (λ (p : ℕ). p * 64 + k % 64) page in
    handed.others (cell_place page_table' t k)
    (λ j hj e.
    let same : get_or page_table' (t * 4096 + k / 64) 0 ≡ get_or page_table' (s * 4096 + j) 0 = omega arith in
    ne (page_apart cells' page_table' spare' (set slots s (Some n)) free' pages t s (k / 64) j sound' (omega arith) (omega arith) same).0)
    ∙ ap (λ (p : ℕ). get_or cells p Empty) place))

pub taken : (cells cells' : List Cell) (page_table page_table' spare spare' : List ℕ) (slots : List (Option ℕ)) (free free' pages rest s n : ℕ)
    → IsSound cells page_table spare slots free pages
    → IsSound cells' page_table' spare' (set slots s (Some n)) free' pages
    → Handed cells cells' page_table page_table' spare spare' rest s n
    → s < length slots
    → extents cells' page_table' (set slots s (Some n)) ≡ set (extents cells page_table slots) s (Some (replicate (64 * n) Empty))
taken cells cells' page_table page_table' spare spare' slots free free' pages rest s n sound sound' handed within =
    extents_set cells cells' page_table page_table' slots (set slots s (Some n)) s (Some (replicate (64 * n) Empty)) (length-set slots s (Some n)) within
    (rw (get_or-set_same slots s (Some n) None within)
    (ap (λ (xs : List Cell). Some xs) (fresh cells cells' page_table page_table' spare spare' rest s n handed)))
    (λ t ne.
    rw (get_or-set_other slots s t (Some n) None ne)
    (undisturbed cells cells' page_table page_table' spare spare' slots free free' pages rest s n t (get_or slots t None) sound sound' handed within refl ne))

-- the cells of the pages that were lent before were emptied, and those of the others are
pub all_cleared : (cells cells' cells'' : List Cell) (page_table page_table' spare spare' : List ℕ) (slots : List (Option ℕ)) (free pages rest s n : ℕ)
    → IsSound cells page_table spare slots free pages
    → Grown cells cells' spare spare' (n - length spare)
    → rest + n ≡ length spare'
    → ((j : ℕ) → j < n → get_or page_table' (s * 4096 + j) 0 ≡ get_or spare' (rest + j) 0)
    → ((j q : ℕ) → j < n - (n - length spare) → q / 64 ≡ get_or page_table' (s * 4096 + j) 0 → get_or cells'' q Empty ≡ Empty)
    → ((q : ℕ) → ((j : ℕ) → j < n - (n - length spare) → q / 64 ≢ get_or page_table' (s * 4096 + j) 0) → get_or cells'' q Empty ≡ get_or cells' q Empty)
    → (j q : ℕ) → j < n → q / 64 ≡ get_or page_table' (s * 4096 + j) 0 → get_or cells'' q Empty ≡ Empty
all_cleared cells cells' cells'' page_table page_table' spare spare' slots free pages rest s n sound grown sum lent cleared others j q hj at =
    elim (cases_lt j (n - (n - length spare))) [
      | inl before ↦ cleared j q before at
      | inr behind ↦
          let count = grown.spare_count in
          let all = sound.all_cells in
          let none : rest ≡ 0 = omega (arith, sum, count, behind, hj) in
          let first : n - (n - length spare) ≡ length spare = omega (arith, behind, hj) in
          let k : ℕ = j - length spare in
          let place : rest + j ≡ length spare + k = omega (arith, none, behind, hj) in
          let page : get_or page_table' (s * 4096 + j) 0 ≡ get_or spare' (length spare + k) 0 = lent j hj ∙ ap (λ (i : ℕ). get_or spare' i 0) place in
          let number = grown.fresh k (omega (arith, behind, hj)) in
          let past : length cells ≤ q = omega (arith, at, page, number) in
          others q
          (λ i hi e.
          let within : i < length spare = omega (arith, hi, first) in
          let own : get_or page_table' (s * 4096 + i) 0 ≡ get_or spare i 0 =
          lent i (omega (arith, hi))
          ∙ ap (λ (m : ℕ). get_or spare' m 0) (let z : rest + i ≡ i = omega (arith, none) in z)
          ∙ grown.before i within in
          let there : 262144 + i - 262144 ≡ i = omega arith in
          let inside = sound.disjoint.inside (262144 + i) (inr (omega arith, omega (arith, within))) in
          let known : page_at page_table spare (262144 + i) ≡ get_or spare i 0 =
          in_spare page_table spare (262144 + i) (omega arith) ∙ ap (λ (m : ℕ). get_or spare m 0) there in
          omega (arith, inside, known, own, e, past, all))
          ∙ grown.same q
          ∙ get_or_past cells q Empty past
    ]

-- a page that came to the slot has its cells
pub page_known : (cells cells' : List Cell) (page_table page_table' spare spare' : List ℕ) (slots : List (Option ℕ)) (free pages s n : ℕ)
    → IsSound cells page_table spare slots free pages
    → Grown cells cells' spare spare' (n - length spare)
    → n ≤ free
    → ((j : ℕ) → j < n → get_or page_table' (s * 4096 + j) 0 ≡ get_or spare' (length spare' - n + j) 0)
    → (j : ℕ) → j < n - (n - length spare) → get_or page_table' (s * 4096 + j) 0 * 64 + 64 ≤ length cells'
page_known cells cells' page_table page_table' spare spare' slots free pages s n sound grown few lent j h =
    let spared = sound.spared in
    let count = grown.spare_count in
    let sound' = grown_sound cells cells' page_table spare spare' slots free pages (n - length spare) sound grown (omega (arith, spared, few)) in
    let k : ℕ = length spare' - n + j in
    let within : k < length spare' = omega (arith, h, count) in
    let there : 262144 + k - 262144 ≡ k = omega arith in
    let inside = sound'.disjoint.inside (262144 + k) (inr (omega arith, omega (arith, within))) in
    let page : page_at page_table spare' (262144 + k) ≡ get_or page_table' (s * 4096 + j) 0 =
    in_spare page_table spare' (262144 + k) (omega arith)
    ∙ ap (λ (m : ℕ). get_or spare' m 0) there
    ∙ sym (lent j (omega (arith, h))) in
    let all = sound'.all_cells in
    omega (arith, inside, page, all)

-- what taking an extent does, all in all
pub record Takes (cells cells'' : List Cell) (page_table page_table' spare'' : List ℕ) (slots : List (Option ℕ)) (free pages s n : ℕ) : Type 0 where
  pub sound : IsSound cells'' page_table' spare'' (set slots s (Some n)) (free - n) pages
  pub extents : extents cells'' page_table' (set slots s (Some n)) ≡ set (extents cells page_table slots) s (Some (replicate (64 * n) Empty))

pub takes : (cells cells' cells'' : List Cell) (page_table page_table' spare spare' spare'' : List ℕ) (slots : List (Option ℕ)) (free pages s n : ℕ)
    → IsSound cells page_table spare slots free pages
    → Grown cells cells' spare spare' (n - length spare)
    → n ≤ free
    → n ≤ 4096
    → s < length slots
    → get_or slots s None ≡ None
    → ((j : ℕ) → j < n → get_or page_table' (s * 4096 + j) 0 ≡ get_or spare' (length spare' - n + j) 0)
    → ((q : ℕ) → (q < s * 4096) ⊎ (s * 4096 + n ≤ q) → get_or page_table' q 0 ≡ get_or page_table q 0)
    → ((j : ℕ) → j < n → s * 4096 + j < length page_table')
    → length page_table ≤ length page_table'
    → spare'' ≡ take (length spare' - n) spare'
    → length cells'' ≡ length cells'
    → ((j q : ℕ) → j < n - (n - length spare) → q / 64 ≡ get_or page_table' (s * 4096 + j) 0 → get_or cells'' q Empty ≡ Empty)
    → ((q : ℕ) → ((j : ℕ) → j < n - (n - length spare) → q / 64 ≢ get_or page_table' (s * 4096 + j) 0) → get_or cells'' q Empty ≡ get_or cells' q Empty)
    → Takes cells cells'' page_table page_table' spare'' slots free pages s n
takes cells cells' cells'' page_table page_table' spare spare' spare'' slots free pages s n sound grown few small within none lent kept reached longer left count cleared others =
    let spared = sound.spared in
    let spare_count = grown.spare_count in
    let sum : length spare' - n + n ≡ length spare' = omega (arith, spare_count) in
    let sound' = grown_sound cells cells' page_table spare spare' slots free pages (n - length spare) sound grown (omega (arith, spared, few)) in
    let handed : Handed cells' cells'' page_table page_table' spare' spare'' (length spare' - n) s n =
    record {
      cell_count = count;
      lent = lent;
      kept = kept;
      reached = reached;
      longer = longer;
      left = left;
      cleared = all_cleared cells cells' cells'' page_table page_table' spare spare' slots free pages (length spare' - n) s n sound grown sum lent cleared others;
      others = λ q h. others q (λ j hj. h j (omega (arith, hj)));
    } in
    let sound'' = taken_sound cells' cells'' page_table page_table' spare' spare'' slots free pages (length spare' - n) s n sound' handed sum small within none in
    record {
      sound = sound'';
      extents = taken cells' cells'' page_table page_table' spare' spare'' slots free (free - n) pages (length spare' - n) s n sound' sound'' handed within
          ∙ ap (λ (es : List (Option (List Cell))). set es s (Some (replicate (64 * n) Empty))) (same_extents cells cells' page_table slots grown.same);
    }
