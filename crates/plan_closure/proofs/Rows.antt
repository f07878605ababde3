-- Steps of the loops that write the table.
use Rattle.std.proofs.Common.{◌≡◌, ◌≢◌, ℕ, ◌+◌, ◌*◌, ◌/◌, ◌%◌, ◌<◌, ◌≤◌, ℤ, pos, ◌+ℤ◌, ◌≤ℤ◌, ◌<ℤ◌, ◌⊎◌, inl, inr, ap, List, Option, None, Some, length, get_or, set, below_more, arith, get_or-set_other, get_or-set_same, refl, sym, ◌∙◌, Bool, nat_eq}
use Rattle.std.proofs.lemmas.List.{get_or_default}
use Rattle.std.proofs.lemmas.Int.{ints, by_lt_z}
use Rattle.plan_closure.specs.declared.entry.Entry.{Entry}
use Rattle.plan_constraints.specs.declared.constraint.Constraint.{Constraint}
use Rattle.plan_closure.specs.Entries.{entry_bound, Improves, IsBetter, kept, IsLed, Leads, IsShorter, IsShorterAt, head_of}
use Rattle.plan_closure.specs.Closure.{bound_at}
use Rattle.plan_closure.specs.Tightened.{Agrees}
use Rattle.plan_constraints.specs.Table.{AtMost, IsClosed}
use Rattle.plan_closure.proofs.Keep.{EntryOf, entry_of}

-- a fact of each place below k, and of what is written at k
pub set_more : {A : Type 0} (P : ℕ → Option A → Type 0) (ws : List (Option A)) (k : ℕ) (r : Option A) → k < length ws → ((m : ℕ) → m < k → P m (get_or ws m None)) → P k r → (m : ℕ) → m < k + 1 → P m (get_or (set ws k r) m None)
set_more P ws k r l f h =
    below_more (λ m. P m (get_or (set ws k r) m None)) k
    (λ m lm. let ne : m ≢ k = omega arith in rw get_or-set_other (f m lm))
    (rw get_or-set_same h)

-- one place more is led
lead_more : (ws vs : List (Option Entry)) (i r j : ℕ) (head : Entry) (o : Option Entry) → 13 * i + j < length vs → Leads ws i r j head vs → IsLed (get_or ws (13 * i + j) None) head (get_or ws (13 * r + j) None) o → Leads ws i r (j + 1) head (set vs (13 * i + j) o)
lead_more ws vs i r j head o l w h = record {
  here = λ k lk. below_more (λ k. IsLed (get_or ws (13 * i + k) None) head (get_or ws (13 * r + k) None) (get_or (set vs (13 * i + j) o) (13 * i + k) None)) j
      (λ m lm. let ne : 13 * i + m ≢ 13 * i + j = omega arith in rw get_or-set_other (w.here m lm))
      (rw get_or-set_same h) k lk;
  before = λ k g. let ne : k ≢ 13 * i + j = omega arith in rw get_or-set_other (w.before k g);
  later = λ k g. let ne : k ≢ 13 * i + j = omega arith in rw get_or-set_other (w.later k (omega arith));
}

sides : (i r : ℕ) → i ≢ r → (i < r) ⊎ (r < i)
sides i r ne = grind arith

-- another row stays
pub other_row : (ws vs : List (Option Entry)) (i r n j : ℕ) (head : Entry) → i ≢ r → n ≤ 13 → j < 13 → n ≤ j + 13 → Leads ws i r n head vs → get_or vs (13 * r + j) None ≡ get_or ws (13 * r + j) None
other_row ws vs i r n j head ne ln lj more w = elim (sides i r ne) [
  | inl lt ↦ w.later (13 * r + j) (omega arith)
  | inr gt ↦ w.before (13 * r + j) (omega arith)
]

-- a way that is there, with a bound at most u
record AtMostEntry (now : Option Entry) (u : ℤ) : Type 0 where
  pub entry : Entry
  pub is : now ≡ Some entry
  pub small : entry.bound ≤ℤ u

not_improved : (now : Option Entry) (s : ℤ) → ¬ Improves now s → AtMostEntry now s
not_improved None s n = absurd (n tt)
not_improved (Some w) s n = record { entry = w; is = refl; small = by_lt_z s w.bound (λ l. absurd (n l)) (λ l. omega (arith, ints, l)) }

led_shorter : (now : Option Entry) (p : Entry) (here : Bool) (c : Constraint) (number : ℕ) (after result : Option Entry) → IsLed now (head_of p here c number) after result → IsShorter now (Some p) here c number after result
led_shorter now p here c number None result h = h
led_shorter now p here c number (Some q) result h = h

-- a row more has the new constraint
pub row_more : (ws vs us : List (Option Entry)) (n i : ℕ) (c : Constraint) (number : ℕ) (p : Entry) → n ≤ 13 → i < n → c.left < n
    → ((m j : ℕ) → m < i → j < n → IsShorterAt ws c number vs (13 * m + j)) → ((k : ℕ) → 13 * i ≤ k → get_or vs k None ≡ get_or ws k None)
    → ((j : ℕ) → j < 13 → get_or vs (13 * c.right + j) None ≡ get_or ws (13 * c.right + j) None) → get_or vs (13 * i + c.left) None ≡ Some p → Leads vs i c.right n (head_of p (nat_eq i c.left) c number) us
    → (m j : ℕ) → m < i + 1 → j < n → IsShorterAt ws c number us (13 * m + j)
row_more ws vs us n i c number p ln li la f same right is w =
    λ m j lm lj. below_more (λ m. (j : ℕ) → j < n → IsShorterAt ws c number us (13 * m + j)) i old new m lm j lj
  where
    old : (m : ℕ) → m < i → (j : ℕ) → j < n → IsShorterAt ws c number us (13 * m + j)
    old m lm j lj = rw (w.before (13 * m + j) (omega arith)) (f m j lm lj)

    new : (j : ℕ) → j < n → IsShorterAt ws c number us (13 * i + j)
    new j lj =
        let at : (13 * i + j) / 13 ≡ i = omega arith in
        let on : (13 * i + j) % 13 ≡ j = omega arith in
        let g = led_shorter (get_or vs (13 * i + j) None) p (nat_eq i c.left) c number (get_or vs (13 * c.right + j) None) (get_or us (13 * i + j) None) (w.here j lj) in
        let before : get_or ws (13 * i + c.left) None ≡ Some p = sym (same (13 * i + c.left) (omega arith)) ∙ is in
        let g2 : IsShorter (get_or ws (13 * i + j) None) (get_or ws (13 * i + c.left) None) (nat_eq i c.left) c number (get_or ws (13 * c.right + j) None) (get_or us (13 * i + j) None) =
        rw (before, ← right j (omega arith), ← same (13 * i + j) (omega arith)) g in
        rw (at, on) g2

-- a row that stays has the new constraint, where it says nothing new of each of its places
row_kept : (ws vs : List (Option Entry)) (n i : ℕ) (c : Constraint) (number : ℕ) → n ≤ 13 → i < n → c.left < n
    → ((m j : ℕ) → m < i → j < n → IsShorterAt ws c number vs (13 * m + j)) → ((k : ℕ) → 13 * i ≤ k → get_or vs k None ≡ get_or ws k None)
    → ((j : ℕ) → j < n → IsShorter (get_or ws (13 * i + j) None) (get_or ws (13 * i + c.left) None) (nat_eq i c.left) c number (get_or ws (13 * c.right + j) None) (get_or ws (13 * i + j) None))
    → (m j : ℕ) → m < i + 1 → j < n → IsShorterAt ws c number vs (13 * m + j)
row_kept ws vs n i c number ln li la f same h =
    λ m j lm lj. below_more (λ m. (j : ℕ) → j < n → IsShorterAt ws c number vs (13 * m + j)) i (λ m lm j lj. f m j lm lj) new m lm j lj
  where
    new : (j : ℕ) → j < n → IsShorterAt ws c number vs (13 * i + j)
    new j lj =
        let at : (13 * i + j) / 13 ≡ i = omega arith in
        let on : (13 * i + j) % 13 ≡ j = omega arith in
        let g : IsShorter (get_or ws (13 * i + j) None) (get_or ws (13 * i + c.left) None) (nat_eq i c.left) c number (get_or ws (13 * c.right + j) None) (get_or vs (13 * i + j) None) = rw (same (13 * i + j) (omega arith)) (h j lj) in
        rw (at, on) g

-- where it has no way to the left node
pub row_same : (ws vs : List (Option Entry)) (n i : ℕ) (c : Constraint) (number : ℕ) → n ≤ 13 → i < n → c.left < n
    → ((m j : ℕ) → m < i → j < n → IsShorterAt ws c number vs (13 * m + j)) → ((k : ℕ) → 13 * i ≤ k → get_or vs k None ≡ get_or ws k None) → get_or vs (13 * i + c.left) None ≡ None
    → (m j : ℕ) → m < i + 1 → j < n → IsShorterAt ws c number vs (13 * m + j)
row_same ws vs n i c number ln li la f same is = row_kept ws vs n i c number ln li la f same (λ j lj.
    let before : get_or ws (13 * i + c.left) None ≡ None = sym (same (13 * i + c.left) (omega arith)) ∙ is in rw before refl)

-- a way that is no longer than the sum over the new constraint stays
no_shorter : (now : Option Entry) (p : Entry) (here : Bool) (c : Constraint) (number : ℕ) (after : Option Entry) → ((q : Entry) → after ≡ Some q → AtMostEntry now (p.bound +ℤ c.bound +ℤ q.bound)) → IsShorter now (Some p) here c number after now
no_shorter now p here c number None h = refl
no_shorter now p here c number (Some q) h = let a = h q refl in kept a.entry a.is a.is a.small

-- where its way to the right node is no longer than that over the new constraint
pub row_skipped : (ws vs : List (Option Entry)) (n i : ℕ) (c : Constraint) (number : ℕ) (p : Entry) → n ≤ 13 → i < n → c.left < n → c.right < n → IsClosed n (bound_at ws)
    → ((m j : ℕ) → m < i → j < n → IsShorterAt ws c number vs (13 * m + j)) → ((k : ℕ) → 13 * i ≤ k → get_or vs k None ≡ get_or ws k None) → get_or vs (13 * i + c.left) None ≡ Some p
    → ¬ Improves (get_or vs (13 * i + c.right) None) (p.bound +ℤ c.bound)
    → (m j : ℕ) → m < i + 1 → j < n → IsShorterAt ws c number vs (13 * m + j)
row_skipped ws vs n i c number p ln li la lb closed f same is high = row_kept ws vs n i c number ln li la f same (λ j lj.
    let before : get_or ws (13 * i + c.left) None ≡ Some p = sym (same (13 * i + c.left) (omega arith)) ∙ is in
    let g : IsShorter (get_or ws (13 * i + j) None) (Some p) (nat_eq i c.left) c number (get_or ws (13 * c.right + j) None) (get_or ws (13 * i + j) None) = no_shorter _ p (nat_eq i c.left) c number _ (over j lj) in
    rw before g)
  where
    there : AtMostEntry (get_or ws (13 * i + c.right) None) (p.bound +ℤ c.bound)
    there = not_improved _ _ (rw (same (13 * i + c.right) (omega arith)) at high)

    over : (j : ℕ) → j < n → (q : Entry) → get_or ws (13 * c.right + j) None ≡ Some q → AtMostEntry (get_or ws (13 * i + j) None) (p.bound +ℤ c.bound +ℤ q.bound)
    over j lj q e =
        let r : AtMost (bound_at ws) i j (there.entry.bound +ℤ q.bound) = closed.closed i c.right j li lb lj there.entry.bound q.bound (ap entry_bound there.is) (ap entry_bound e) in
        let w : EntryOf ws i j r.bound = entry_of ws i j r.bound r.is in
        let small : r.bound ≤ℤ (there.entry.bound +ℤ q.bound) = r.small in
        let low : there.entry.bound ≤ℤ (p.bound +ℤ c.bound) = there.small in
        record { entry = w.entry; is = w.is; small = omega (arith, ints, w.bound) }

-- the row of the right node is never led
pub row_apart : (ws vs : List (Option Entry)) (n i : ℕ) (c : Constraint) (p : Entry) → n ≤ 13 → i < n → c.left < n → c.right < n → IsClosed n (bound_at ws) → Agrees (bound_at ws) c.left c.right c.bound
    → ((k : ℕ) → 13 * i ≤ k → get_or vs k None ≡ get_or ws k None) → get_or vs (13 * i + c.left) None ≡ Some p → Improves (get_or vs (13 * i + c.right) None) (p.bound +ℤ c.bound) → i ≢ c.right
row_apart ws vs n i c p ln li la lb closed agree same is low = λ e.
    let own : EntryOf ws c.right c.right (pos 0) = entry_of ws c.right c.right (pos 0) (closed.self c.right lb) in
    let at : get_or vs (13 * i + c.right) None ≡ Some own.entry = same (13 * i + c.right) (omega arith) ∙ ap (λ z. get_or ws (13 * z + c.right) None) e ∙ own.is in
    let back : get_or ws (13 * c.right + c.left) None ≡ Some p = ap (λ z. get_or ws (13 * z + c.left) None) (sym e) ∙ sym (same (13 * i + c.left) (omega arith)) ∙ is in
    let round : pos 0 ≤ℤ (p.bound +ℤ c.bound) = agree.agrees p.bound (ap entry_bound back) in
    let less : (p.bound +ℤ c.bound) <ℤ own.entry.bound = rw at at low in
    absurd (omega (arith, ints, own.bound))

pub lead_better : (ws vs : List (Option Entry)) (i r j : ℕ) (head q : Entry) (x y o : Option Entry) → i ≢ r → 13 * i + j < length vs → 13 * r + j < length vs → j < 13 → Leads ws i r j head vs → get_or vs (13 * r + j) x ≡ Some q → IsBetter (get_or vs (13 * i + j) y) head q o → Leads ws i r (j + 1) head (set vs (13 * i + j) o)
lead_better ws vs i r j head q x y o ne l lr lj w e h =
    let is : get_or ws (13 * r + j) None ≡ Some q = sym (other_row ws vs i r j j head ne (omega arith) lj (omega arith) w) ∙ get_or_default vs (13 * r + j) None x lr ∙ e in
    let now : get_or vs (13 * i + j) y ≡ get_or ws (13 * i + j) None = sym (get_or_default vs (13 * i + j) None y l) ∙ w.later (13 * i + j) (omega arith) in
    let b : IsBetter (get_or ws (13 * i + j) None) head q o = rw now at h in
    let g : IsLed (get_or ws (13 * i + j) None) head (get_or ws (13 * r + j) None) o = rw is b in
    lead_more ws vs i r j head o l w g

pub lead_none : (ws vs : List (Option Entry)) (i r j : ℕ) (head : Entry) (x : Option Entry) → i ≢ r → 13 * r + j < length vs → j < 13 → Leads ws i r j head vs → get_or vs (13 * r + j) x ≡ None → Leads ws i r (j + 1) head vs
lead_none ws vs i r j head x ne lr lj w e = record {
  here = λ k lk. below_more (λ k. IsLed (get_or ws (13 * i + k) None) head (get_or ws (13 * r + k) None) (get_or vs (13 * i + k) None)) j w.here last k lk;
  before = w.before;
  later = λ k g. w.later k (omega arith);
}
  where
    last : IsLed (get_or ws (13 * i + j) None) head (get_or ws (13 * r + j) None) (get_or vs (13 * i + j) None)
    last =
        let is : get_or ws (13 * r + j) None ≡ None = sym (other_row ws vs i r j j head ne (omega arith) lj (omega arith) w) ∙ get_or_default vs (13 * r + j) None x lr ∙ e in
        rw is (w.later (13 * i + j) (omega arith))

-- what is there stays where the sum is no lower
pub kept_if : (now : Option Entry) (head after : Entry) (s : ℤ) → s ≡ head.bound +ℤ after.bound → ¬ Improves now s → IsBetter now head after now
kept_if now head after s e n = let a : AtMostEntry now s = not_improved now s n in let l : a.entry.bound ≤ℤ s = a.small in kept a.entry a.is a.is (omega (arith, ints, e))
