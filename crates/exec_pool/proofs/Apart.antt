-- The pages of live extents: no two have one in common, and what taking and giving back leave of them.
use Rattle.std.proofs.Common.{◌≡◌, ◌≢◌, ℕ, suc, ◌+◌, ◌*◌, ◌<◌, ◌≤◌, ◌⊎◌, Option, None, Some, List, [], ◌∷◌, length, get_or, set, unwrap_or, refl, sym, ap, ◌∙◌, inl, inr, arith, get_or-set_other}
use Rattle.std.specs.List.{sum_by}
use Rattle.std.proofs.lemmas.List.{get_or_past}
use Rattle.std.proofs.lemmas.List.Sums.{sum_by-cons}
use Rattle.std.proofs.lemmas.Bool.{cases_lt}
use Rattle.sem_query.specs.declared.cell.Cell.{Cell}
use Rattle.exec_pool.specs.Extents.{AreApart}
use Rattle.exec_pool.specs.Places.{held, slot_pages, lent, extent_at, extents, IsSound}
use Rattle.exec_pool.proofs.Cells.{length-slot_cells, get_or-extents, length-lent, get_or-lent, length-slot_pages, get_or-slot_pages, slot_pages_agree}
use Rattle.exec_pool.proofs.Live.{page_inside, page_apart}

-- two lists whose members count for as much at each place
sum_alike : {A B : Type 0} (f : A → ℕ) (g : B → ℕ) (a : A) (b : B) (xs : List A) (ys : List B)
    → length xs ≡ length ys
    → ((i : ℕ) → f (get_or xs i a) ≡ g (get_or ys i b))
    → sum_by f xs ≡ sum_by g ys
sum_alike {A} {B} f g a b [] [] len h = refl
sum_alike {A} {B} f g a b [] (y ∷ ys) len h = absurd (omega arith)
sum_alike {A} {B} f g a b (x ∷ xs) [] len h = absurd (omega arith)
sum_alike {A} {B} f g a b (x ∷ xs) (y ∷ ys) len h =
    let rest = sum_alike f g a b xs ys (omega arith) (λ i. h (suc i)) in
    let head : f x ≡ g y = h 0 in
    sum_by-cons f x xs ∙ rw (head, rest) (sym (sum_by-cons g y ys))

length-lent_at : (page_table : List ℕ) (slots : List (Option ℕ)) (s : ℕ) → length (get_or (lent page_table slots) s []) ≡ held (get_or slots s None)
length-lent_at page_table slots s =
    ap length (get_or-lent page_table slots s) ∙ length-slot_pages page_table s (held (get_or slots s None))

pub lent_held : (page_table : List ℕ) (slots : List (Option ℕ)) → sum_by length (lent page_table slots) ≡ sum_by held slots
lent_held page_table slots =
    sum_alike {A = List ℕ} {B = Option ℕ} length held [] None (lent page_table slots) slots (length-lent page_table slots) (length-lent_at page_table slots)

page_is : (page_table : List ℕ) (slots : List (Option ℕ)) (s i : ℕ)
    → i < held (get_or slots s None) → get_or (get_or (lent page_table slots) s []) i 0 ≡ get_or page_table (s * 4096 + i) 0
page_is page_table slots s i h =
    ap (λ (ps : List ℕ). get_or ps i 0) (get_or-lent page_table slots s) ∙ get_or-slot_pages page_table s (held (get_or slots s None)) i h

occupied : (cells : List Cell) (page_table : List ℕ) (s : ℕ) (o : Option ℕ) → 64 * held o ≡ length (unwrap_or (extent_at cells page_table s o) [])
occupied cells page_table s None = omega arith
occupied cells page_table s (Some n) = sym (length-slot_cells cells page_table s (64 * n))

pub are_apart : (cells : List Cell) (page_table spare : List ℕ) (slots : List (Option ℕ)) (free pages : ℕ)
    → IsSound cells page_table spare slots free pages
    → AreApart (record { pages = pages; free = free; lent = lent page_table slots; extents = extents cells page_table slots })
are_apart cells page_table spare slots free pages sound =
    record {
      inside = λ s i h.
          let below : i < held (get_or slots s None) = omega (arith, length-lent_at page_table slots s) in
          let inside = page_inside cells page_table spare slots free pages s i sound below in
          let counted = sound.counted in
          let spared = sound.spared in
          let page = page_is page_table slots s i below in
          omega arith;
      apart = λ s t i j h k e.
          let below : i < held (get_or slots s None) = omega (arith, length-lent_at page_table slots s) in
          let below' : j < held (get_or slots t None) = omega (arith, length-lent_at page_table slots t) in
          page_apart cells page_table spare slots free pages s t i j sound below below'
          (sym (page_is page_table slots s i below) ∙ e ∙ page_is page_table slots t j below');
      occupied = λ s.
          ap (λ (n : ℕ). 64 * n) (length-lent_at page_table slots s)
          ∙ occupied cells page_table s (get_or slots s None)
          ∙ ap (λ (o : Option (List Cell)). length (unwrap_or o [])) (sym (get_or-extents cells page_table slots s));
    }

-- the pages at another slot, after some were taken
pub lent_beside_taken : (page_table page_table' : List ℕ) (slots : List (Option ℕ)) (s n t : ℕ)
    → ((q : ℕ) → (q < s * 4096) ⊎ (s * 4096 + n ≤ q) → get_or page_table' q 0 ≡ get_or page_table q 0)
    → ((u : ℕ) → held (get_or slots u None) ≤ 4096)
    → n ≤ 4096
    → t ≢ s
    → get_or (lent page_table' (set slots s (Some n))) t [] ≡ get_or (lent page_table slots) t []
lent_beside_taken page_table page_table' slots s n t kept small few ne =
    get_or-lent page_table' (set slots s (Some n)) t
    ∙ ap (λ (o : Option ℕ). slot_pages page_table' t (held o)) (get_or-set_other slots s t (Some n) None ne)
    ∙ slot_pages_agree page_table page_table' t (held (get_or slots t None))
    (λ j h.
    let most = small t in
    kept (t * 4096 + j) (elim (cases_lt t s) [ inl below ↦ inl (omega arith) | inr above ↦ inr (omega arith) ]))
    ∙ sym (get_or-lent page_table slots t)

-- and after some were given back
pub lent_beside_back : (page_table : List ℕ) (slots : List (Option ℕ)) (s t : ℕ)
    → t ≢ s
    → get_or (lent page_table (set slots s None)) t [] ≡ get_or (lent page_table slots) t []
lent_beside_back page_table slots s t ne =
    get_or-lent page_table (set slots s None) t
    ∙ ap (λ (o : Option ℕ). slot_pages page_table t (held o)) (get_or-set_other slots s t None None ne)
    ∙ sym (get_or-lent page_table slots t)
