-- What callers use: how often a tuple waits after a change.
use Rattle.std.proofs.Common.{◌≡◌, ◌≢◌, ℕ, ℤ, List, [], ◌∷◌, refl, sym, ap, ◌∙◌}
use Rattle.std.specs.declared.cmp.Ordering.{Ordering}
use Rattle.std.specs.declared.cmp.Ordering.TheVariants.{Less, Equal, Greater}
use Rattle.exec_answer_table.specs.Order.{tuple_order}
use Rattle.exec_answer_table.specs.Entries.{Entry, entry_of, changed_at, changed, waiting_at, waiting_of, AllAbove, Ascends}
use Rattle.exec_answer_table.proofs.Order.{order_equal, order_self}
use Rattle.exec_answer_table.proofs.Changed.{above_trans}

passed : (o : Ordering) (e : Entry) (later : ℕ) → o ≢ Equal → waiting_at o e later ≡ later
passed Less e later ne = refl
passed Equal e later ne = absurd (ne refl)
passed Greater e later ne = refl

other_at : (s t : List ℤ) (f : ℕ → ℕ) (e : Entry) (rest done : List Entry) (o : Ordering)
    → tuple_order t e.tuple ≡ o
    → tuple_order s t ≢ Equal
    → waiting_of s done ≡ waiting_of s rest
    → waiting_of s (changed_at o f t e rest done) ≡ waiting_of s (e ∷ rest)
unfolding waiting_of
other_at s t f e rest done Less is ne same = passed (tuple_order s t) (entry_of t (f 0)) (waiting_of s (e ∷ rest)) ne
other_at s t f e rest done Equal is ne same =
    let apart : tuple_order s e.tuple ≢ Equal = λ h. ne (ap (λ (u : List ℤ). tuple_order s u) (order_equal t e.tuple is) ∙ h) in
    passed (tuple_order s e.tuple) (entry_of e.tuple (f e.waiting)) (waiting_of s rest) apart
    ∙ sym (passed (tuple_order s e.tuple) e (waiting_of s rest) apart)
other_at s t f e rest done Greater is ne same = ap (λ (n : ℕ). waiting_at (tuple_order s e.tuple) e n) same

-- the counts of other tuples stay
pub waiting_changed_other : (s t : List ℤ) (f : ℕ → ℕ) (es : List Entry)
    → tuple_order s t ≢ Equal → waiting_of s (changed f t es) ≡ waiting_of s es
unfolding changed waiting_of
waiting_changed_other s t f [] ne = passed (tuple_order s t) (entry_of t (f 0)) 0 ne
waiting_changed_other s t f (e ∷ rest) ne =
    other_at s t f e rest (changed f t rest) (tuple_order t e.tuple) refl ne (waiting_changed_other s t f rest ne)

none_above : (t : List ℤ) (es : List Entry) → AllAbove t es → waiting_of t es ≡ 0
unfolding waiting_of
none_above t [] a = refl
none_above t (e ∷ rest) a =
    ap (λ (o : Ordering). waiting_at o e (waiting_of t rest)) a.0 ∙ none_above t rest a.1

same_at : (t : List ℤ) (f : ℕ → ℕ) (e : Entry) (rest done : List Entry) (o : Ordering)
    → tuple_order t e.tuple ≡ o
    → Ascends (e ∷ rest)
    → waiting_of t done ≡ f (waiting_of t rest)
    → waiting_of t (changed_at o f t e rest done) ≡ f (waiting_of t (e ∷ rest))
unfolding waiting_of
same_at t f e rest done Less is a same =
    ap (λ (o : Ordering). waiting_at o (entry_of t (f 0)) (waiting_of t (e ∷ rest))) (order_self t)
    ∙ ap f (sym (none_above t (e ∷ rest) (is, above_trans t e.tuple rest is a.0)))
same_at t f e rest done Equal is a same =
    ap (λ (o : Ordering). waiting_at o (entry_of e.tuple (f e.waiting)) (waiting_of t rest)) is
    ∙ ap (λ (o : Ordering). f (waiting_at o e (waiting_of t rest))) (sym is)
same_at t f e rest done Greater is a same =
    ap (λ (o : Ordering). waiting_at o e (waiting_of t done)) is
    ∙ same
    ∙ ap (λ (o : Ordering). f (waiting_at o e (waiting_of t rest))) (sym is)

-- the tuple's own count is changed
pub waiting_changed_same : (t : List ℤ) (f : ℕ → ℕ) (es : List Entry)
    → Ascends es → waiting_of t (changed f t es) ≡ f (waiting_of t es)
unfolding changed waiting_of
waiting_changed_same t f [] a = ap (λ (o : Ordering). waiting_at o (entry_of t (f 0)) 0) (order_self t)
waiting_changed_same t f (e ∷ rest) a =
    same_at t f e rest (changed f t rest) (tuple_order t e.tuple) refl a (waiting_changed_same t f rest a.1)
