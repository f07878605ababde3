-- What callers use: the tuples of a table as an ascending list, and the entries that wait after a change.
use Rattle.std.proofs.Common.{◌≡◌, ℕ, ℤ, Bool, true, false, cond, nat_lt, ◌||◌, List, [], ◌∷◌, refl, sym, ap, ap₂, ◌∙◌, arith}
use Rattle.std.specs.List.{list_any}
use Rattle.std.specs.Ordering.{is_eq}
use Rattle.std.specs.declared.cmp.Ordering.{Ordering}
use Rattle.std.specs.declared.cmp.Ordering.TheVariants.{Less, Equal, Greater}
use Rattle.std.proofs.lemmas.Bool.Decides.{nat_tests}
use Rattle.sem_query.specs.Tuples.{is_before, is_same, insert_sorted, sorted}
use Rattle.exec_answer_table.specs.Order.{tuple_order}
use Rattle.exec_answer_table.specs.Entries.{Entry, entry_of, changed_at, changed, has_at, has, AllAbove, Ascends, waits, waiting_entries, tuples_of}
use Rattle.exec_answer_table.proofs.ThreeWay.{order_three_way, same_three_way}
use Rattle.exec_answer_table.proofs.Order.{order_equal, order_flip, order_turn}
use Rattle.exec_answer_table.proofs.Changed.{above_trans}

pub same_is : (t u : List ℤ) → is_same t u ≡ is_eq (tuple_order t u)
same_is t u = same_three_way t u ∙ ap is_eq (sym (order_three_way t u))

-- a tuple has an entry exactly where it is among the tuples
pub has_tuple : (t : List ℤ) (es : List Entry) → list_any (is_same t) (tuples_of es) ≡ has t es
unfolding has
has_tuple t [] = refl
has_tuple t (e ∷ es) =
    ap₂ (λ (b d : Bool). b || d) (same_is t e.tuple) (has_tuple t es) ∙ at (tuple_order t e.tuple) (has t es)
  where
    at : (o : Ordering) (later : Bool) → (is_eq o || later) ≡ has_at o later
    at Less later = refl
    at Equal later = refl
    at Greater later = refl

pub before_less : (a b : List ℤ) → tuple_order a b ≡ Less → is_before a b ≡ true
before_less a b e = at (is_before a b) (is_before b a) refl e
  where
    at : (x y : Bool) → is_before a b ≡ x → cond x Less (cond y Greater Equal) ≡ Less → is_before a b ≡ true
    at true y is e = is
    at false true is e = cc
    at false false is e = cc

pub before_greater : (a b : List ℤ) → tuple_order a b ≡ Greater → is_before a b ≡ false
before_greater a b e = at (is_before a b) (is_before b a) refl e
  where
    at : (x y : Bool) → is_before a b ≡ x → cond x Less (cond y Greater Equal) ≡ Greater → is_before a b ≡ false
    at false y is e = is
    at true y is e = cc

-- a tuple without an entry is put at its place
pub tuples_new : (t : List ℤ) (f : ℕ → ℕ) (es : List Entry) → has t es ≡ false → tuples_of (changed f t es) ≡ insert_sorted t (tuples_of es)
unfolding changed has
tuples_new t f [] h = refl
tuples_new t f (e ∷ es) h =
    at (tuple_order t e.tuple) refl h (λ k. tuples_new t f es k)
  where
    at : (o : Ordering)
        → tuple_order t e.tuple ≡ o
        → has_at o (has t es) ≡ false
        → (has t es ≡ false → tuples_of (changed f t es) ≡ insert_sorted t (tuples_of es))
        → tuples_of (changed_at o f t e es (changed f t es)) ≡ insert_sorted t (e.tuple ∷ tuples_of es)
    at Less is k rest = rw (before_greater e.tuple t (order_turn t e.tuple is)) refl
    at Equal is k rest = cc
    at Greater is k rest =
        rw (before_less e.tuple t (order_flip t e.tuple is)) (ap (λ (ts : List (List ℤ)). e.tuple ∷ ts) (rest k))

pub above_has : (t : List ℤ) (es : List Entry) → AllAbove t es → has t es ≡ false
unfolding has
above_has t [] a = refl
above_has t (e ∷ es) a = ap (λ (o : Ordering). has_at o (has t es)) a.0 ∙ above_has t es a.1

-- with an entry, the tuples stay
pub tuples_old : (t : List ℤ) (f : ℕ → ℕ) (es : List Entry) → Ascends es → has t es ≡ true → tuples_of (changed f t es) ≡ tuples_of es
unfolding changed has
tuples_old t f [] a h = cc
tuples_old t f (e ∷ es) a h =
    at (tuple_order t e.tuple) refl h (λ k. tuples_old t f es a.1 k)
  where
    at : (o : Ordering)
        → tuple_order t e.tuple ≡ o
        → has_at o (has t es) ≡ true
        → (has t es ≡ true → tuples_of (changed f t es) ≡ tuples_of es)
        → tuples_of (changed_at o f t e es (changed f t es)) ≡ e.tuple ∷ tuples_of es
    at Less is k rest =
        let none : has t es ≡ false = above_has t es (above_trans t e.tuple es is a.0) in cc
    at Equal is k rest = refl
    at Greater is k rest = ap (λ (ts : List (List ℤ)). e.tuple ∷ ts) (rest k)

placed_first : (t : List ℤ) (es : List Entry) → AllAbove t es → insert_sorted t (tuples_of es) ≡ t ∷ tuples_of es
placed_first t [] a = refl
placed_first t (e ∷ es) a = rw (before_greater e.tuple t (order_turn t e.tuple a.0)) refl

-- the tuples stand in the order of answers
pub tuples_ascend : (es : List Entry) → Ascends es → sorted (tuples_of es) ≡ tuples_of es
tuples_ascend [] a = refl
tuples_ascend (e ∷ es) a = ap (insert_sorted e.tuple) (tuples_ascend es a.1) ∙ placed_first e.tuple es a.0

above_waiting : (t : List ℤ) (es : List Entry) → AllAbove t es → AllAbove t (waiting_entries es)
above_waiting t [] a = tt
above_waiting t (e ∷ es) a = at (waits e) (waiting_entries es) (above_waiting t es a.1)
  where
    at : (b : Bool) (rest : List Entry) → AllAbove t rest → AllAbove t (cond b (e ∷ rest) rest)
    at true rest h = (a.0, h)
    at false rest h = h

changed_first : (t : List ℤ) (f : ℕ → ℕ) (es : List Entry) → AllAbove t es → changed f t es ≡ entry_of t (f 0) ∷ es
unfolding changed
changed_first t f [] a = refl
changed_first t f (e ∷ es) a = ap (λ (o : Ordering). changed_at o f t e es (changed f t es)) a.0

-- the entries that wait change as all do, where the tuple waits afterwards
pub waiting_changed : (t : List ℤ) (f : ℕ → ℕ) (es : List Entry)
    → ((w : ℕ) → nat_lt 0 (f w) ≡ true) → Ascends es → waiting_entries (changed f t es) ≡ changed f t (waiting_entries es)
unfolding changed
waiting_changed t f [] some a = ap (λ (b : Bool). cond b (entry_of t (f 0) ∷ []) []) (some 0)
waiting_changed t f (e ∷ es) some a =
    at (tuple_order t e.tuple) refl (waiting_changed t f es some a.1)
  where
    same : (b : Bool)
        → waits e ≡ b
        → tuple_order t e.tuple ≡ Equal
        → entry_of e.tuple (f e.waiting) ∷ waiting_entries es ≡ changed f t (cond b (e ∷ waiting_entries es) (waiting_entries es))
    same true is eq = ap (λ (o : Ordering). changed_at o f t e (waiting_entries es) (changed f t (waiting_entries es))) (sym eq)
    same false is eq =
        let here : t ≡ e.tuple = order_equal t e.tuple eq in
        let none : e.waiting ≡ 0 = zero_of e.waiting is in
        ap₂ (λ (s : List ℤ) (w : ℕ). entry_of s (f w) ∷ waiting_entries es) (sym here) none
        ∙ sym (changed_first t f (waiting_entries es) (rw here (above_waiting e.tuple es a.0)))
      where
        zero_of : (w : ℕ) → nat_lt 0 w ≡ false → w ≡ 0
        zero_of w h = grind (arith, nat_tests)

    later : (b : Bool)
        → tuple_order t e.tuple ≡ Greater
        → cond b (e ∷ changed f t (waiting_entries es)) (changed f t (waiting_entries es)) ≡ changed f t (cond b (e ∷ waiting_entries es) (waiting_entries es))
    later true gt = ap (λ (o : Ordering). changed_at o f t e (waiting_entries es) (changed f t (waiting_entries es))) (sym gt)
    later false gt = refl

    at : (o : Ordering)
        → tuple_order t e.tuple ≡ o
        → waiting_entries (changed f t es) ≡ changed f t (waiting_entries es)
        → waiting_entries (changed_at o f t e es (changed f t es)) ≡ changed f t (cond (waits e) (e ∷ waiting_entries es) (waiting_entries es))
    at Less is rest =
        ap (λ (b : Bool). cond b (entry_of t (f 0) ∷ waiting_entries (e ∷ es)) (waiting_entries (e ∷ es))) (some 0)
        ∙ sym (changed_first t f (waiting_entries (e ∷ es)) (above_waiting t (e ∷ es) (is, above_trans t e.tuple es is a.0)))
    at Equal is rest =
        ap (λ (b : Bool). cond b (entry_of e.tuple (f e.waiting) ∷ waiting_entries es) (waiting_entries es)) (some e.waiting)
        ∙ same (waits e) refl is
    at Greater is rest =
        ap (λ (es' : List Entry). cond (waits e) (e ∷ es') es') rest ∙ later (waits e) is
