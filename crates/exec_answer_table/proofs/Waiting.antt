-- The list of the numbers that wait, after one count was set.
use Rattle.std.proofs.Common.{◌≡◌, ◌≢◌, ℕ, ◌<◌, ◌≤◌, ◌⊎◌, Bool, true, false, cond, nat_lt, ℤ, List, [], ◌∷◌, length, filter, get_or, set, sym, ap, ◌∙◌, inl, inr, arith, get_or-set_same, get_or-set_other}
use Rattle.std.specs.List.{insert}
use Rattle.std.proofs.lemmas.List.Edits.{length-insert}
use Rattle.std.proofs.lemmas.Bool.{cases_eq, cases_lt}
use Rattle.std.proofs.lemmas.Bool.Decides.{nat_tests}
use Rattle.std.specs.declared.cmp.Ordering.TheVariants.{Less}
use Rattle.exec_answer_table.specs.Order.{tuple_order}
use Rattle.exec_answer_table.specs.Rows.{row_of, AscendRows, IsRank, counts_for}
use Rattle.exec_answer_table.specs.Entries.{AllAbove, Ascends}
use Rattle.exec_answer_table.specs.Fields.{entries_of}
use Rattle.exec_answer_table.proofs.Order.{order_irreflexive, order_asymmetric}
use Rattle.exec_answer_table.proofs.Numbers.{filter_alike, filter_gained, filter_place, length-filter_le, passing, ranked_at, ranked_unique, ranked_filter}
use Rattle.exec_answer_table.proofs.Places.{ascend_rows, numbers_apart}

pub counted : (n : ℕ) → 0 < n → nat_lt 0 n ≡ true
counted n h = grind (arith, nat_tests)

pub not_counted : (n : ℕ) → n ≤ 0 → nat_lt 0 n ≡ false
not_counted n h = grind (arith, nat_tests)

above_filter : (values : List ℤ) (counts : List ℕ) (width : ℕ) (t : List ℤ) (p : ℕ → Bool) (numbers : List ℕ)
    → AllAbove t (entries_of values counts width numbers) → AllAbove t (entries_of values counts width (filter p numbers))
above_filter values counts width t p [] a = tt
above_filter values counts width t p (k ∷ numbers) a = at (p k) (filter p numbers) a.0 (above_filter values counts width t p numbers a.1)
  where
    at : (b : Bool) (ks : List ℕ) → tuple_order t (row_of values width k) ≡ Less → AllAbove t (entries_of values counts width ks) → AllAbove t (entries_of values counts width (cond b (k ∷ ks) ks))
    at true ks h a = (h, a)
    at false ks h a = a

-- rows in ascending order stay so where some are left out
pub ascends_filter : (values : List ℤ) (counts : List ℕ) (width : ℕ) (p : ℕ → Bool) (numbers : List ℕ)
    → Ascends (entries_of values counts width numbers) → Ascends (entries_of values counts width (filter p numbers))
ascends_filter values counts width p [] a = tt
ascends_filter values counts width p (k ∷ numbers) a =
    at (p k) (filter p numbers) (above_filter values counts width (row_of values width k) p numbers a.0) (ascends_filter values counts width p numbers a.1)
  where
    at : (b : Bool) (ks : List ℕ) → AllAbove (row_of values width k) (entries_of values counts width ks) → Ascends (entries_of values counts width ks) → Ascends (entries_of values counts width (cond b (k ∷ ks) ks))
    at true ks h a = (h, a)
    at false ks h a = a

-- the rank of a row of the order among those that wait
pub due_rank : (values : List ℤ) (counts order : List ℕ) (width place rank : ℕ)
    → Ascends (entries_of values counts width order)
    → place < length order
    → IsRank values width (filter (counts_for counts) order) (row_of values width (get_or order place 0)) rank
    → rank ≡ passing (counts_for counts) place order
due_rank values counts order width place rank ascends within is =
    let rows = ascend_rows values counts order width ascends in
    let P : ℕ → Type 0 = λ k. tuple_order (row_of values width k) (row_of values width (get_or order place 0)) ≡ Less in
    ranked_unique P (filter (counts_for counts) order) rank (passing (counts_for counts) place order)
    (ranked_at P (filter (counts_for counts) order) rank is.within is.below is.above)
    (ranked_filter P (counts_for counts) order place
    (ranked_at P order place (omega arith) (λ j h. rows j place h within)
    (λ j h k less.
    elim (cases_lt place j) [
      | inl after ↦ order_asymmetric (row_of values width (get_or order j 0)) (row_of values width (get_or order place 0)) less (rows place j after k)
      | inr same ↦ let e : j ≡ place = omega arith in order_irreflexive (row_of values width (get_or order j 0)) (row_of values width (get_or order place 0)) (ap (λ (m : ℕ). row_of values width (get_or order m 0)) e) less
    ])))

-- the test at another place is as before
others : (values : List ℤ) (counts order : List ℕ) (width place n : ℕ)
    → AscendRows values width order
    → place < length order
    → (j : ℕ) → j < length order → j ≢ place
    → counts_for (set counts (get_or order place 0) n) (get_or order j 0) ≡ counts_for counts (get_or order j 0)
others values counts order width place n rows within j h ne =
    ap (λ (w : ℕ). nat_lt 0 w) (get_or-set_other counts (get_or order place 0) (get_or order j 0) n 0 (numbers_apart values order width place j rows within h ne))

own : (counts : List ℕ) (k n : ℕ) → k < length counts → counts_for (set counts k n) k ≡ nat_lt 0 n
own counts k n h = ap (λ (w : ℕ). nat_lt 0 w) (get_or-set_same counts k n 0 h)

-- it waited and waits, or it did not and does not
pub due_same : (values : List ℤ) (counts order : List ℕ) (width place n : ℕ)
    → Ascends (entries_of values counts width order)
    → place < length order
    → get_or order place 0 < length counts
    → nat_lt 0 n ≡ counts_for counts (get_or order place 0)
    → filter (counts_for counts) order ≡ filter (counts_for (set counts (get_or order place 0) n)) order
due_same values counts order width place n ascends within inside same =
    let rows = ascend_rows values counts order width ascends in
    filter_alike (counts_for counts) (counts_for (set counts (get_or order place 0) n)) order
    (λ j h.
    sym
    (elim (cases_eq j place) [
      | inl e ↦ rw e (own counts (get_or order place 0) n inside ∙ same)
      | inr ne ↦ others values counts order width place n rows within j h ne
    ]))

-- it comes to wait
pub due_gained : (values : List ℤ) (counts order : List ℕ) (width place n rank : ℕ)
    → Ascends (entries_of values counts width order)
    → place < length order
    → get_or order place 0 < length counts
    → counts_for counts (get_or order place 0) ≡ false
    → nat_lt 0 n ≡ true
    → IsRank values width (filter (counts_for counts) order) (row_of values width (get_or order place 0)) rank
    → insert (filter (counts_for counts) order) rank (get_or order place 0) ≡ filter (counts_for (set counts (get_or order place 0) n)) order
due_gained values counts order width place n rank ascends within inside idle active is =
    let rows = ascend_rows values counts order width ascends in
    ap (λ (r : ℕ). insert (filter (counts_for counts) order) r (get_or order place 0)) (due_rank values counts order width place rank ascends within is)
    ∙ sym
    (filter_gained (counts_for counts) (counts_for (set counts (get_or order place 0) n)) order place within idle
    (own counts (get_or order place 0) n inside ∙ active)
    (others values counts order width place n rows within))

-- before that, not all wait
pub due_room : (values : List ℤ) (counts order : List ℕ) (width place n rank : ℕ)
    → Ascends (entries_of values counts width order)
    → place < length order
    → get_or order place 0 < length counts
    → counts_for counts (get_or order place 0) ≡ false
    → nat_lt 0 n ≡ true
    → IsRank values width (filter (counts_for counts) order) (row_of values width (get_or order place 0)) rank
    → length (filter (counts_for counts) order) < length order
due_room values counts order width place n rank ascends within inside idle active is =
    let same = due_gained values counts order width place n rank ascends within inside idle active is in
    let l = length-insert (filter (counts_for counts) order) rank (get_or order place 0) is.within in
    let l' = ap length same in
    let most = length-filter_le (counts_for (set counts (get_or order place 0) n)) order in
    omega arith

-- all counts are 0 where those that waited were cleared and no other came to wait
pub all_cleared : (counts counts' order due : List ℕ)
    → due ≡ filter (counts_for counts) order
    → ((i : ℕ) → i < length due → get_or counts' (get_or due i 0) 0 ≡ 0)
    → ((k : ℕ) → (get_or counts' k 0 ≡ 0) ⊎ (get_or counts' k 0 ≡ get_or counts k 0))
    → (j : ℕ) → j < length order → get_or counts' (get_or order j 0) 0 ≡ 0
all_cleared counts counts' order due waiting cleared others j h =
    elim (others (get_or order j 0)) [
      | inl none ↦ none
      | inr same ↦
          elim (cases_eq (get_or counts (get_or order j 0) 0) 0) [
            | inl none ↦ same ∙ none
            | inr some ↦
                let m = filter_place (counts_for counts) order j h (counted (get_or counts (get_or order j 0) 0) (omega arith)) in
                let listed = rw waiting at cleared in
                ap (λ (k : ℕ). get_or counts' k 0) (sym m.1.1) ∙ listed m.0 m.1.0
          ]
    ]
