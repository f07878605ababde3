-- The box of a stream among the filters of its prefilter.
use Rattle.std.proofs.Common.{◌≡◌, ℕ, zero, suc, ◌≤◌, ◌==◌, length, slice_index_or, slice_set, cond, true, ℤ, List, [], ◌∷◌, Some, refl, sym, ap, ◌∙◌, subst, arith}
use Rattle.std.proofs.lemmas.Bool.Decides.{nat_tests}
use Rattle.exec_query_index.specs.declared.boxes.Interval.{Interval}
use Rattle.exec_query_index.specs.declared.boxes.QueryBox.{QueryBox}
use Rattle.sem_query.specs.Meaning.{by_column}
use Rattle.exec_filter.specs.declared.prefilter.StreamFilter.{StreamFilter}
use Rattle.exec_filter.specs.Prefilter.{comes_in, lets_in}
use Rattle.exec_filter.specs.Passing.{AreHeld, IsBoxAmong}

-- an interval that is put among others, and those
pub set_holds : (xs : List Interval) (c k : ℕ) (i d : Interval) (P : Interval → Type 0) → (k ≡ c → P i) → P (slice_index_or xs k d) → P (slice_index_or (slice_set xs c i) k d)
set_holds [] c k i d P own old = old
set_holds (x ∷ xs) zero zero i d P own old = own refl
set_holds (x ∷ xs) zero (suc k) i d P own old = old
set_holds (x ∷ xs) (suc c) zero i d P own old = old
set_holds (x ∷ xs) (suc c) (suc k) i d P own old = set_holds xs c k i d P (λ e. own (ap suc e)) old

same_number : (n : ℕ) → (n == n) ≡ true
same_number n = grind (arith, nat_tests)

-- the box of the first filter, where it is of the stream
pub box_first : (stream_filters : List StreamFilter) (e : StreamFilter) (stream : ℕ) (box : QueryBox) → 1 ≤ length stream_filters → e ≡ slice_index_or stream_filters 0 e → e.stream ≡ stream
    → ((v : ℕ → ℤ) → lets_in e v ≡ true → AreHeld box v) → IsBoxAmong stream_filters stream (Some box)
box_first [] e stream box some at is held = absurd (omega (arith, some))
box_first (x ∷ es) e stream box some at is held = λ row h.
    let here : (x.stream == stream) ≡ true = ap (λ n. n == stream) (ap (λ (o : StreamFilter). o.stream) (sym at) ∙ is) ∙ same_number stream in
    let first : comes_in (record { stream = stream; values = row }) (x ∷ es) ≡ lets_in x (by_column row) = ap (λ b. cond b (lets_in x (by_column row)) (comes_in (record { stream = stream; values = row }) es)) here in
    held (by_column row) (subst (λ (o : StreamFilter). lets_in o (by_column row) ≡ true) (sym at) (sym first ∙ h))
