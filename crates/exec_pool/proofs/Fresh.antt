-- How many slots are live and how many pages they hold, and a pool with none.
use Rattle.std.proofs.Common.{◌≡◌, ℕ, ◌+◌, ◌-◌, ◌*◌, ◌/◌, ◌<◌, ◌≤◌, Option, None, Some, List, [], ◌∷◌, length, get_or, is_some, cond, suc, refl, sym, ap, ◌∙◌, inl, inr, arith}
use Rattle.std.specs.List.{sum_by, count_by}
use Rattle.std.proofs.lemmas.List.Sums.{sum_by-cons}
use Rattle.sem_query.specs.declared.cell.Cell.{Cell}
use Rattle.exec_pool.specs.Places.{held, extent_at, extents, IsUsed, IsSound}
use Rattle.exec_pool.proofs.Cells.{length-extents, get_or-extents}

-- two lists that have something at the same places
count_alike : {A B : Type 0} (xs : List (Option A)) (ys : List (Option B))
    → length xs ≡ length ys
    → ((i : ℕ) → is_some (get_or xs i None) ≡ is_some (get_or ys i None))
    → count_by is_some xs ≡ count_by is_some ys
count_alike {A} {B} [] [] len h = refl
count_alike {A} {B} [] (y ∷ ys) len h = absurd (omega arith)
count_alike {A} {B} (x ∷ xs) [] len h = absurd (omega arith)
count_alike {A} {B} (x ∷ xs) (y ∷ ys) len h =
    let rest = count_alike xs ys (omega arith) (λ i. h (suc i)) in
    let head : is_some x ≡ is_some y = h 0 in
    sum_by-cons (λ (o : Option A). cond (is_some o) 1 0) x xs
    ∙ rw head (ap (λ (k : ℕ). cond (is_some y) 1 0 + k) rest)
    ∙ sym (sum_by-cons (λ (o : Option B). cond (is_some o) 1 0) y ys)

pub live_count : (cells : List Cell) (page_table : List ℕ) (slots : List (Option ℕ))
    → count_by is_some (extents cells page_table slots) ≡ count_by is_some slots
live_count cells page_table slots =
    count_alike (extents cells page_table slots) slots (length-extents cells page_table slots)
    (λ i. rw (get_or-extents cells page_table slots i) (alike cells page_table i (get_or slots i None)))
  where
    alike : (cells : List Cell) (page_table : List ℕ) (s : ℕ) (o : Option ℕ) → is_some (extent_at cells page_table s o) ≡ is_some o
    alike cells page_table s None = refl
    alike cells page_table s (Some n) = refl

pub none_live : (slots : List (Option ℕ)) → ((i : ℕ) → get_or slots i None ≡ None) → count_by is_some slots ≡ 0
none_live [] h = refl
none_live (o ∷ slots) h =
    let rest = none_live slots (λ i. h (suc i)) in let head : o ≡ None = h 0 in
    sum_by-cons (λ (p : Option ℕ). cond (is_some p) 1 0) o slots ∙ rw head (omega arith)

pub none_held : (slots : List (Option ℕ)) → ((i : ℕ) → get_or slots i None ≡ None) → sum_by held slots ≡ 0
none_held [] h = refl
none_held (o ∷ slots) h =
    let rest = none_held slots (λ i. h (suc i)) in let head : o ≡ None = h 0 in
    sum_by-cons held o slots ∙ rw head (omega arith)

-- no page was ever lent
pub fresh_sound : (slots : List (Option ℕ)) (pages : ℕ)
    → pages ≤ 16384
    → length slots ≡ 64
    → ((i : ℕ) → get_or slots i None ≡ None)
    → IsSound [] [] [] slots pages pages
fresh_sound slots pages few all_slots none =
    let nothing = none_held slots none in
    record {
      few = few;
      all_cells = rw nothing refl;
      all_slots = all_slots;
      counted = omega arith;
      spared = omega arith;
      reached = λ s j h. absurd (let z : held (get_or slots s None) ≡ 0 = ap held (none s) in omega arith);
      small = λ s. rw (none s) (omega arith);
      disjoint = record {
        inside = λ q h. absurd (unused q h);
        apart = λ q r h _ _. absurd (unused q h);
      };
    }
  where
    unused : (q : ℕ) → IsUsed slots 0 q → ⊥
    unused q (inr h) = omega arith
    unused q (inl h) = let z : held (get_or slots (q / 4096) None) ≡ 0 = ap held (none (q / 4096)) in omega arith
