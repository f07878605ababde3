-- Taking up what was found: the entries stay in order, and what waits are the counts of what was found.
use Rattle.std.proofs.Common.{◌≡◌, ◌≢◌, ℕ, zero, suc, ◌+◌, ◌*◌, ◌≤◌, ◌^◌, min, ℤ, Bool, true, false, cond, List, [], ◌∷◌, ◌++◌, refl, sym, ap, ◌∙◌, subst, arith, replicate}
use Rattle.std.specs.Ordering.{is_eq}
use Rattle.std.specs.declared.cmp.Ordering.{Ordering}
use Rattle.std.specs.declared.cmp.Ordering.TheVariants.{Less, Equal, Greater}
use Rattle.sem_query.specs.Tuples.{is_same}
use Rattle.sem_query.specs.Combinations.{Found}
use Rattle.sem_query.specs.Future.{spelled_out}
use Rattle.sem_laws.proofs.Sums.{sums, bit, sums_append}
use Rattle.sem_laws.proofs.Counts.{times}
use Rattle.exec_answer_table.specs.Order.{tuple_order}
use Rattle.exec_answer_table.specs.Entries.{Entry, TableValue, with_entries, changed_at, changed, has_at, has, waiting_at, waiting_of, Ascends}
use Rattle.exec_answer_table.proofs.Order.{order_equal, order_self}
use Rattle.exec_answer_table.proofs.Changed.{ascends_changed}
use Rattle.exec_answer_table.proofs.CallerLemmas.{waiting_changed_other, waiting_changed_same}
use Rattle.exec_answer_table.proofs.Tuples.{same_is}
use Rattle.exec_query.specs.FoundTable.{with_found, with_all, HaveRoom}

-- one list of what was found after another
pub with_all-append : (d : Bool) (xs ys : List Found) (es : List Entry) → with_all d (xs ++ ys) es ≡ with_all d ys (with_all d xs es)
unfolding with_all
with_all-append d [] ys es = refl
with_all-append d (x ∷ xs) ys es = with_all-append d xs ys (with_found d x es)

pub room_first : (d : Bool) (xs ys : List Found) (table : TableValue) → HaveRoom d (xs ++ ys) table → HaveRoom d xs table
room_first d [] ys table h = tt
room_first d (x ∷ xs) ys table h = (h.0, h.1, room_first d xs ys (with_entries table (with_found d x table.entries)) h.2)

pub room_then : (d : Bool) (xs ys : List Found) (table : TableValue)
    → HaveRoom d (xs ++ ys) table → HaveRoom d ys (with_entries table (with_all d xs table.entries))
unfolding with_all
room_then d [] ys table h = h
room_then d (x ∷ xs) ys table h = room_then d xs ys (with_entries table (with_found d x table.entries)) h.2

-- the entries stay in ascending order
pub ascends_found : (d : Bool) (f : Found) (es : List Entry) → Ascends es → Ascends (with_found d f es)
ascends_found true f es a = by (has f.tuple es)
  where
    by : (b : Bool) → Ascends (cond b es (changed (λ waiting. waiting + 1) f.tuple es))
    by true = a
    by false = ascends_changed f.tuple (λ waiting. waiting + 1) es a
ascends_found false f es a = ascends_changed f.tuple (λ waiting. min (waiting + f.count) (2 ^ 127)) es a

pub ascends_all : (d : Bool) (fs : List Found) (es : List Entry) → Ascends es → Ascends (with_all d fs es)
unfolding with_all
ascends_all d [] es a = a
ascends_all d (f ∷ fs) es a = ascends_all d fs (with_found d f es) (ascends_found d f es a)

-- how a tuple compares with itself and with another
pub order_of_same : (z t : List ℤ) → is_same z t ≡ true → tuple_order z t ≡ Equal
order_of_same z t e = at (tuple_order z t) refl (sym (same_is z t) ∙ e)
  where
    at : (o : Ordering) → tuple_order z t ≡ o → is_eq (tuple_order z t) ≡ true → tuple_order z t ≡ Equal
    at Less is h = absurd (let k : is_eq Less ≡ true = subst (λ o. is_eq o ≡ true) is h in cc)
    at Equal is h = is
    at Greater is h = absurd (let k : is_eq Greater ≡ true = subst (λ o. is_eq o ≡ true) is h in cc)

pub order_of_other : (z t : List ℤ) → is_same z t ≡ false → tuple_order z t ≢ Equal
order_of_other z t e h = let k : is_same z t ≡ true = same_is z t ∙ ap is_eq h in cc

-- without DISTINCT a tuple comes to wait as often as it is found, up to the cap
add_capped : (w a b u : ℕ) → min (min (w + a) u + b) u ≡ min (w + (a + b)) u
add_capped w a b u = omega arith

pub times-replicate : (z t : List ℤ) (n : ℕ) → times z (replicate n t) ≡ n * bit (is_same z t)
unfolding sums
times-replicate z t zero = omega arith
times-replicate z t (suc n) = omega (arith, times-replicate z t n)

-- whether a tuple has an entry after a change
has_other_at : (s t : List ℤ) (f : ℕ → ℕ) (e : Entry) (rest done : List Entry) (o : Ordering)
    → tuple_order t e.tuple ≡ o → tuple_order s t ≢ Equal → has s done ≡ has s rest
    → has s (changed_at o f t e rest done) ≡ has s (e ∷ rest)
unfolding has
has_other_at s t f e rest done Less is ne same = at (tuple_order s t) refl
  where
    at : (o : Ordering) → tuple_order s t ≡ o → has_at (tuple_order s t) (has s (e ∷ rest)) ≡ has s (e ∷ rest)
    at Less is = ap (λ o. has_at o (has s (e ∷ rest))) is
    at Equal is = absurd (ne is)
    at Greater is = ap (λ o. has_at o (has s (e ∷ rest))) is
has_other_at s t f e rest done Equal is ne same = refl
has_other_at s t f e rest done Greater is ne same = ap (has_at (tuple_order s e.tuple)) same

pub has_changed_other : (s t : List ℤ) (f : ℕ → ℕ) (es : List Entry) → tuple_order s t ≢ Equal → has s (changed f t es) ≡ has s es
unfolding changed has
has_changed_other s t f [] ne = at (tuple_order s t) refl
  where
    at : (o : Ordering) → tuple_order s t ≡ o → has_at (tuple_order s t) false ≡ false
    at Less is = ap (λ o. has_at o false) is
    at Equal is = absurd (ne is)
    at Greater is = ap (λ o. has_at o false) is
has_changed_other s t f (e ∷ rest) ne = has_other_at s t f e rest (changed f t rest) (tuple_order t e.tuple) refl ne (has_changed_other s t f rest ne)

has_same_at : (t : List ℤ) (f : ℕ → ℕ) (e : Entry) (rest done : List Entry) (o : Ordering)
    → tuple_order t e.tuple ≡ o → has t done ≡ true → has t (changed_at o f t e rest done) ≡ true
unfolding has
has_same_at t f e rest done Less is k = ap (λ o. has_at o (has t (e ∷ rest))) (order_self t)
has_same_at t f e rest done Equal is k = ap (λ o. has_at o (has t rest)) is
has_same_at t f e rest done Greater is k = ap (λ o. has_at o (has t done)) is ∙ k

pub has_changed_same : (t : List ℤ) (f : ℕ → ℕ) (es : List Entry) → has t (changed f t es) ≡ true
unfolding changed has
has_changed_same t f [] = ap (λ o. has_at o false) (order_self t)
has_changed_same t f (e ∷ rest) = has_same_at t f e rest (changed f t rest) (tuple_order t e.tuple) refl (has_changed_same t f rest)

-- a tuple without an entry does not wait
pub none_waits : (t : List ℤ) (es : List Entry) → has t es ≡ false → waiting_of t es ≡ 0
unfolding has waiting_of
none_waits t [] h = refl
none_waits t (e ∷ es) h = at (tuple_order t e.tuple) h (none_waits t es)
  where
    at : (o : Ordering) → has_at o (has t es) ≡ false → (has t es ≡ false → waiting_of t es ≡ 0) → waiting_at o e (waiting_of t es) ≡ 0
    at Less k f = f k
    at Equal k f = absurd cc
    at Greater k f = f k

-- what one find changes for a tuple, without DISTINCT
plain_found : (z : List ℤ) (f : Found) (es : List Entry) → Ascends es
    → waiting_of z es ≤ 2 ^ 127
    → waiting_of z (with_found false f es) ≡ min (waiting_of z es + f.count * bit (is_same z f.tuple)) (2 ^ 127)
plain_found z f es a w = at (is_same z f.tuple) refl
  where
    cap : ℕ → ℕ
    cap waiting = min (waiting + f.count) (2 ^ 127)

    at : (b : Bool) → is_same z f.tuple ≡ b
        → waiting_of z (changed (λ waiting. min (waiting + f.count) (2 ^ 127)) f.tuple es) ≡ min (waiting_of z es + f.count * bit b) (2 ^ 127)
    at true e =
        let i : z ≡ f.tuple = order_equal z f.tuple (order_of_same z f.tuple e) in
        ap (λ t. waiting_of t (changed (λ waiting. min (waiting + f.count) (2 ^ 127)) f.tuple es)) i
        ∙ waiting_changed_same f.tuple (λ waiting. min (waiting + f.count) (2 ^ 127)) es a
        ∙ ap (λ t. min (waiting_of t es + f.count) (2 ^ 127)) (sym i)
        ∙ omega arith
    at false e =
        waiting_changed_other z f.tuple (λ waiting. min (waiting + f.count) (2 ^ 127)) es (order_of_other z f.tuple e)
        ∙ omega (arith, w)

pub times-spelled : (z : List ℤ) (f : Found) (fs : List Found) → times z (spelled_out (f ∷ fs)) ≡ f.count * bit (is_same z f.tuple) + times z (spelled_out fs)
times-spelled z f fs =
    sums_append (λ t. bit (is_same z t)) (replicate f.count f.tuple) (spelled_out fs)
    ∙ ap (λ n. n + times z (spelled_out fs)) (times-replicate z f.tuple f.count)

-- without DISTINCT a tuple comes to wait as often as it is found, up to the cap
pub waits_plain : (z : List ℤ) (fs : List Found) (es : List Entry) → Ascends es → waiting_of z es ≤ 2 ^ 127
    → waiting_of z (with_all false fs es) ≡ min (waiting_of z es + times z (spelled_out fs)) (2 ^ 127)
unfolding with_all sums
waits_plain z [] es a w = omega (arith, w)
waits_plain z (f ∷ fs) es a w =
    let one = plain_found z f es a w in
    let more : waiting_of z (with_found false f es) ≤ 2 ^ 127 = omega (arith, one) in
    waits_plain z fs (with_found false f es) (ascends_found false f es a) more
    ∙ ap (λ n. min (n + times z (spelled_out fs)) (2 ^ 127)) one
    ∙ add_capped (waiting_of z es) (f.count * bit (is_same z f.tuple)) (times z (spelled_out fs)) (2 ^ 127)
    ∙ ap (λ n. min (waiting_of z es + n) (2 ^ 127)) (sym (times-spelled z f fs))

-- one step of taking up what is left
pub taken_room : (d : Bool) (f : Found) (left others : List Found) (table more : TableValue)
    → left ≡ f ∷ others → more ≡ with_entries table (with_found d f table.entries) → HaveRoom d left table → HaveRoom d others more
taken_room d f left others table more e is h =
    subst (λ t. HaveRoom d others t) (sym is) (let k : HaveRoom d (f ∷ others) table = subst (λ fs. HaveRoom d fs table) e h in k.2)

pub taken_table : (d : Bool) (f : Found) (left others : List Found) (table more whole : TableValue)
    → left ≡ f ∷ others → more ≡ with_entries table (with_found d f table.entries)
    → with_entries table (with_all d left table.entries) ≡ whole
    → with_entries more (with_all d others more.entries) ≡ whole
unfolding with_all
taken_table d f left others table more whole e is h =
    ap (λ (t : TableValue). with_entries t (with_all d others t.entries)) is
    ∙ ap (λ (fs : List Found). with_entries table (with_all d fs table.entries)) (sym e)
    ∙ h

-- nothing is left
pub taken_none : (d : Bool) (left : List Found) (table whole : TableValue) → left ≡ []
    → with_entries table (with_all d left table.entries) ≡ whole → table ≡ whole
unfolding with_all
taken_none d left table whole e h = ap (λ (fs : List Found). with_entries table (with_all d fs table.entries)) (sym e) ∙ h

-- the same by an equal test for DISTINCT
pub found_same : (d e : Bool) (f : Found) (table more : TableValue) → d ≡ e
    → more ≡ with_entries table (with_found d f table.entries) → more ≡ with_entries table (with_found e f table.entries)
found_same d e f table more same is = is ∙ ap (λ (b : Bool). with_entries table (with_found b f table.entries)) same
