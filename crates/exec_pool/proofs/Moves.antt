-- Moving pages between the table and the spare ones keeps them apart.
use Rattle.std.proofs.Common.{◌≡◌, ℕ, ◌+◌, ◌-◌, ◌*◌, ◌/◌, ◌%◌, ◌<◌, ◌≤◌, ◌≢◌, ◌⊎◌, Option, None, Some, List, length, get_or, set, sym, ap, ◌∙◌, inl, inr, arith, get_or-set_same, get_or-set_other}
use Rattle.std.proofs.lemmas.Bool.{cases_eq, cases_lt}
use Rattle.std.proofs.lemmas.Bool.Decides.{nat_tests}
use Rattle.exec_pool.specs.Places.{held, source, page_at, IsUsed, ArePages}

pub source_in : (from to n q : ℕ) → to ≤ q → q < to + n → source from to n q ≡ from + (q - to)
source_in from to n q h h' = grind (arith, nat_tests)

pub source_below : (from to n q : ℕ) → q < to → source from to n q ≡ q
source_below from to n q h = grind (arith, nat_tests)

pub source_above : (from to n q : ℕ) → to + n ≤ q → source from to n q ≡ q
source_above from to n q h = grind (arith, nat_tests)

pub source_out : (from to n q : ℕ) → (q < to) ⊎ (to + n ≤ q) → source from to n q ≡ q
source_out from to n q h =
    elim h [ inl low ↦ source_below from to n q low | inr high ↦ source_above from to n q high ]

-- a place of the table
pub in_table : (page_table spare : List ℕ) (q : ℕ) → q < 262144 → page_at page_table spare q ≡ get_or page_table q 0
in_table page_table spare q h = grind (arith, nat_tests)

-- a place of a spare page
pub in_spare : (page_table spare : List ℕ) (q : ℕ) → 262144 ≤ q → page_at page_table spare q ≡ get_or spare (q - 262144) 0
in_spare page_table spare q h = grind (arith, nat_tests)

-- a place after a run was moved: in its copy, or outside both runs
pub data Came (slots : List (Option ℕ)) (spare from to n q : ℕ) : Type 0 where
  copied : to ≤ q → q < to + n → IsUsed slots spare (from + (q - to)) → Came slots spare from to n q
  stayed : (q < to) ⊎ (to + n ≤ q) → (q < from) ⊎ (from + n ≤ q) → IsUsed slots spare q → Came slots spare from to n q

pub came_used : (slots : List (Option ℕ)) (spare from to n q : ℕ) → Came slots spare from to n q → IsUsed slots spare (source from to n q)
came_used slots spare from to n q (copied low high used) = rw (source_in from to n q low high) used
came_used slots spare from to n q (stayed out _ used) = rw (source_out from to n q out) used

pub came_apart : (slots : List (Option ℕ)) (spare from to n q r : ℕ)
    → Came slots spare from to n q
    → Came slots spare from to n r
    → source from to n q ≡ source from to n r
    → q ≡ r
came_apart slots spare from to n q r (copied low high _) (copied low' high' _) e =
    let s = source_in from to n q low high in let s' = source_in from to n r low' high' in omega arith
came_apart slots spare from to n q r (copied low high _) (stayed out away _) e =
    let s = source_in from to n q low high in let s' = source_out from to n r out in omega arith
came_apart slots spare from to n q r (stayed out away _) (copied low high _) e =
    let s = source_in from to n r low high in let s' = source_out from to n q out in omega arith
came_apart slots spare from to n q r (stayed out _ _) (stayed out' _ _) e =
    let s = source_out from to n q out in let s' = source_out from to n r out' in omega arith

-- the pages stay apart where each used place came from a used one
pub moved : (at at' : ℕ → ℕ) (slots slots' : List (Option ℕ)) (spare spare' lent from to n : ℕ)
    → ArePages at slots spare lent
    → ((q : ℕ) → IsUsed slots' spare' q → at' q ≡ at (source from to n q))
    → ((q : ℕ) → IsUsed slots' spare' q → Came slots spare from to n q)
    → ArePages at' slots' spare' lent
moved at at' slots slots' spare spare' lent from to n are same came =
    record {
      inside = λ q h. rw (same q h) (are.inside (source from to n q) (came_used slots spare from to n q (came q h)));
      apart = λ q r hq hr e.
          came_apart slots spare from to n q r (came q hq) (came r hr)
          (are.apart (source from to n q) (source from to n r) (came_used slots spare from to n q (came q hq)) (came_used slots spare from to n r (came r hr)) (sym (same q hq) ∙ e ∙ same r hr));
    }

-- page j of a slot, as a place of the table
pub place_slot : (s j : ℕ) → j < 4096 → (s * 4096 + j) / 4096 ≡ s
place_slot s j h = omega arith

pub place_page : (s j : ℕ) → j < 4096 → (s * 4096 + j) % 4096 ≡ j
place_page s j h = omega arith

pub used_slot : (slots : List (Option ℕ)) (spare s j : ℕ)
    → s < 64 → j < 4096 → j < held (get_or slots s None) → IsUsed slots spare (s * 4096 + j)
used_slot slots spare s j h small below =
    inl (omega arith, rw (place_slot s j small, place_page s j small) below)

-- spare pages to a slot
pub came_taken : (slots : List (Option ℕ)) (spare rest s n q : ℕ)
    → rest + n ≡ spare
    → n ≤ 4096
    → s < 64
    → length slots ≡ 64
    → IsUsed (set slots s (Some n)) rest q
    → Came slots spare (262144 + rest) (s * 4096) n q
came_taken slots spare rest s n q sum small within len (inr (low, high)) =
    stayed (inr (omega arith)) (inl (omega arith)) (inr (low, omega arith))
came_taken slots spare rest s n q sum small within len (inl (low, page)) =
    elim (cases_eq (q / 4096) s) [
      | inl e ↦
          let inside : s < length slots = omega arith in
          let here : held (get_or (set slots s (Some n)) (q / 4096) None) ≡ n =
          rw e (ap held (get_or-set_same slots s (Some n) None inside)) in
          let below : q % 4096 < n = omega arith in
          copied (omega arith) (omega arith) (inr (omega arith, omega arith))
      | inr ne ↦
          let there : held (get_or (set slots s (Some n)) (q / 4096) None) ≡ held (get_or slots (q / 4096) None) =
          ap held (get_or-set_other slots s (q / 4096) (Some n) None ne) in
          let out : (q < s * 4096) ⊎ (s * 4096 + n ≤ q) = apart_from q s n small ne in
          stayed out (inl (omega arith)) (inl (low, omega arith))
    ]
  where
    apart_from : (q s n : ℕ) → n ≤ 4096 → q / 4096 ≢ s → (q < s * 4096) ⊎ (s * 4096 + n ≤ q)
    apart_from q s n small ne =
        elim (cases_lt q (s * 4096)) [ inl h ↦ inl h | inr h ↦ inr (omega arith) ]

-- a slot's pages to the spare ones
pub came_back : (slots : List (Option ℕ)) (spare s n q : ℕ)
    → held (get_or slots s None) ≡ n
    → n ≤ 4096
    → s < 64
    → length slots ≡ 64
    → IsUsed (set slots s None) (spare + n) q
    → Came slots spare (s * 4096) (262144 + spare) n q
came_back slots spare s n q is small within len (inr (low, high)) =
    elim (cases_lt q (262144 + spare)) [
      | inl h ↦ stayed (inl h) (inr (omega arith)) (inr (low, h))
      | inr h ↦
          copied h (omega arith) (used_slot slots spare s (q - (262144 + spare)) within (omega arith) (omega arith))
    ]
came_back slots spare s n q is small within len (inl (low, page)) =
    elim (cases_eq (q / 4096) s) [
      | inl e ↦
          let inside : s < length slots = omega arith in
          let here : held (get_or (set slots s None) (q / 4096) None) ≡ 0 =
          rw e (ap held (get_or-set_same slots s None None inside)) in
          absurd (omega arith)
      | inr ne ↦
          let there : held (get_or (set slots s None) (q / 4096) None) ≡ held (get_or slots (q / 4096) None) =
          ap held (get_or-set_other slots s (q / 4096) None None ne) in
          stayed (inl (omega arith)) (away q s n small ne) (inl (low, omega arith))
    ]
  where
    away : (q s n : ℕ) → n ≤ 4096 → q / 4096 ≢ s → (q < s * 4096) ⊎ (s * 4096 + n ≤ q)
    away q s n small ne =
        elim (cases_lt q (s * 4096)) [ inl h ↦ inl h | inr h ↦ inr (omega arith) ]
