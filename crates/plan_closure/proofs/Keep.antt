-- The ways with one constraint more are its closure.
use Rattle.std.proofs.Common.{◌≡◌, ◌≢◌, ℕ, suc, ◌<◌, ◌≤◌, ◌+◌, ◌*◌, ◌/◌, ◌%◌, ℤ, pos, ◌+ℤ◌, ◌≤ℤ◌, ◌<ℤ◌, int_lt, cond, nat_eq, ◌⊎◌, inl, inr, refl, sym, ◌∙◌, ap, ap₂, subst, arith, Option, Some, None, Bool, true, false, List, [], ◌∷◌, ◌++◌, length, Contains, slice_get}
use Rattle.std.proofs.lemmas.Int.{ints}
use Rattle.std.proofs.lemmas.List.Elements.{Contains-push_cases}
use Rattle.plan_constraints.specs.declared.constraint.Constraint.{Constraint}
use Rattle.plan_closure.specs.declared.entry.Entry.{Entry}
use Rattle.plan_constraints.specs.Table.{Table, AtMost, IsClosed}
use Rattle.plan_closure.specs.Tightened.{through, lesser, tightened, Agrees}
use Rattle.plan_closure.specs.Entries.{entry_bound, Improves, kept, replaced, IsShorter, IsShorterAt}
use Rattle.plan_closure.specs.Closure.{entry_at, bound_at, Next, AreTight}
use Rattle.plan_constraints.proofs.Numbers.{contains_at, slice_get-append}
use Rattle.plan_closure.proofs.Tighten.{tightened-closed, old-at_most, over-at_most, at_most-trans}
use Rattle.plan_constraints.proofs.Options.{some_is, none_is}

-- ---- what the code's step means on the table

lesser_none : (x : Option ℤ) → lesser x None ≡ x
lesser_none None = refl
lesser_none (Some d) = refl

lesser_kept : (d s : ℤ) → d ≤ℤ s → lesser (Some d) (Some s) ≡ Some d
lesser_kept d s h = let e : int_lt s d ≡ false = grind (arith, ints) in ap (λ b. cond b (Some s) (Some d)) e

lesser_new : (d s : ℤ) → s <ℤ d → lesser (Some d) (Some s) ≡ Some s
lesser_new d s h = let e : int_lt s d ≡ true = grind (arith, ints) in ap (λ b. cond b (Some s) (Some d)) e

improved : (now : Option Entry) (s : ℤ) → Improves now s → lesser (entry_bound now) (Some s) ≡ Some s
improved None s h = refl
improved (Some w) s h = lesser_new w.bound s h

pub shorter_bound : (now before : Option Entry) (here : Bool) (c : Constraint) (number : ℕ) (after result : Option Entry) → IsShorter now before here c number after result → entry_bound result ≡ lesser (entry_bound now) (through (entry_bound before) c.bound (entry_bound after))
shorter_bound now None here c number after result h = ap entry_bound h ∙ sym (lesser_none (entry_bound now))
shorter_bound now (Some p) here c number None result h = ap entry_bound h ∙ sym (lesser_none (entry_bound now))
shorter_bound now (Some p) here c number (Some q) result (kept w e f l) =
    ap entry_bound f ∙ sym (lesser_kept w.bound (p.bound +ℤ c.bound +ℤ q.bound) l) ∙ ap (λ o. lesser (entry_bound o) (Some (p.bound +ℤ c.bound +ℤ q.bound))) (sym e)
shorter_bound now (Some p) here c number (Some q) result (replaced w e f n m l i) =
    ap entry_bound e ∙ ap (λ z. let A : Type 0 = Option ℤ in let o : A = Some z in o) f ∙ sym (improved now (p.bound +ℤ c.bound +ℤ q.bound) i)

-- the way of a bound
pub record EntryOf (ws : List (Option Entry)) (i j : ℕ) (d : ℤ) : Type 0 where
  pub entry : Entry
  pub is : entry_at ws i j ≡ Some entry
  pub bound : entry.bound ≡ d

pub entry_of : (ws : List (Option Entry)) (i j : ℕ) (d : ℤ) → bound_at ws i j ≡ Some d → EntryOf ws i j d
entry_of ws i j d h = go (entry_at ws i j) refl h
  where
    go : (o : Option Entry) → entry_at ws i j ≡ o → entry_bound o ≡ Some d → EntryOf ws i j d
    go None e h = cc
    go (Some w) e h = record { entry = w; is = e; bound = some_is h }

pub last_is : (cs : List Constraint) (c : Constraint) → slice_get (cs ++ c ∷ []) (length cs) ≡ Some c
last_is [] c = refl
last_is (d ∷ cs) c = last_is cs c

-- where a new way comes from
pub data Fate (ws : List (Option Entry)) (c : Constraint) (number i j : ℕ) (w : Entry) : Type 0 where
  stays : entry_at ws i j ≡ Some w → ((p q : Entry) → entry_at ws i c.left ≡ Some p → entry_at ws c.right j ≡ Some q → w.bound ≤ℤ (p.bound +ℤ c.bound +ℤ q.bound)) → Fate ws c number i j w
  moves : (p q : Entry) → entry_at ws i c.left ≡ Some p → entry_at ws c.right j ≡ Some q → w.bound ≡ p.bound +ℤ c.bound +ℤ q.bound → w.number ≡ cond (nat_eq i c.left) number p.number → w.next ≡ cond (nat_eq i c.left) c.right p.next → w.length ≡ p.length + 1 + q.length → ((x : Entry) → entry_at ws i j ≡ Some x → w.bound <ℤ x.bound) → Fate ws c number i j w

closed_same : (n : ℕ) (t u : Table) → ((i j : ℕ) → i < n → j < n → u i j ≡ t i j) → IsClosed n t → IsClosed n u
closed_same n t u e k = record {
  self = λ i l. e i i l l ∙ k.self i l;
  closed = λ i j m li lj lm p q f g.
      let r : AtMost t i m (p +ℤ q) = k.closed i j m li lj lm p q (sym (e i j li lj) ∙ f) (sym (e j m lj lm) ∙ g) in
      record { bound = r.bound; is = e i m li lm ∙ r.is; small = r.small };
}

same_or : (i j : ℕ) → (i ≡ j) ⊎ (i ≢ j)
same_or i j = grind arith

module _ (n : ℕ) (few : n ≤ 13) (cs : List Constraint) (ws : List (Option Entry)) (k : AreTight n cs ws) (c : Constraint) (la : c.left < n) (lb : c.right < n) (g : Agrees (bound_at ws) c.left c.right c.bound) (number : ℕ) (is_number : number ≡ suc (length cs))
    (vs : List (Option Entry)) (f : (i j : ℕ) → i < n → j < n → IsShorterAt ws c number vs (13 * i + j)) where
  shorter : (i j : ℕ) → i < n → j < n → IsShorter (entry_at ws i j) (entry_at ws i c.left) (nat_eq i c.left) c number (entry_at ws c.right j) (entry_at vs i j)
  shorter i j li lj =
      let h : IsShorterAt ws c number vs (13 * i + j) = f i j li lj in
      let r : (13 * i + j) / 13 ≡ i = omega arith in
      let s : (13 * i + j) % 13 ≡ j = omega arith in
      rw (r, s) at h

  table_is : (i j : ℕ) → i < n → j < n → bound_at vs i j ≡ tightened (bound_at ws) c.left c.right c.bound i j
  table_is i j li lj = shorter_bound _ _ (nat_eq i c.left) c number _ _ (shorter i j li lj)

  new_closed : IsClosed n (bound_at vs)
  new_closed = closed_same n (tightened (bound_at ws) c.left c.right c.bound) (bound_at vs) table_is (tightened-closed n (bound_at ws) k.closed c.left c.right c.bound la lb g)

  at_most-new : (i j : ℕ) → i < n → j < n → (u : ℤ) → AtMost (tightened (bound_at ws) c.left c.right c.bound) i j u → AtMost (bound_at vs) i j u
  at_most-new i j li lj u h = record { bound = h.bound; is = table_is i j li lj ∙ h.is; small = h.small }

  new_tight : (d : Constraint) → Contains cs d ⊎ (c ≡ d) → AtMost (bound_at vs) d.left d.right d.bound
  new_tight d (inl h) =
      let r : AtMost (bound_at ws) d.left d.right d.bound = k.covers.tight d h in
      at_most-new d.left d.right (k.covers.left d h) (k.covers.right d h) d.bound
      (at_most-trans (tightened (bound_at ws) c.left c.right c.bound) d.left d.right r.bound d.bound (old-at_most (bound_at ws) c.left c.right c.bound d.left d.right r.bound r.is) r.small)
  new_tight d (inr e) =
      let h : AtMost (bound_at vs) c.left c.right c.bound = at_most-new c.left c.right la lb c.bound
      (at_most-trans (tightened (bound_at ws) c.left c.right c.bound) c.left c.right _ c.bound (over-at_most (bound_at ws) c.left c.right c.bound c.left c.right (pos 0) (pos 0) (k.closed.self c.left la) (k.closed.self c.right lb)) (omega (arith, ints))) in
      subst (λ z. AtMost (bound_at vs) z.left z.right z.bound) e h

  new_side : (d : Constraint) → Contains cs d ⊎ (c ≡ d) → (d.left < n) × (d.right < n)
  new_side d (inl h) = (k.covers.left d h, k.covers.right d h)
  new_side d (inr e) = subst (λ z. (z.left < n) × (z.right < n)) e (la, lb)

  fate : (i j : ℕ) (now before after result : Option Entry) (w : Entry) → entry_at ws i j ≡ now → entry_at ws i c.left ≡ before → entry_at ws c.right j ≡ after → result ≡ Some w → IsShorter now before (nat_eq i c.left) c number after result → Fate ws c number i j w
  fate i j now None after result w en eb ea er h = stays (en ∙ sym h ∙ er) (λ p q ep eq. absurd (none_is (sym eb ∙ ep)))
  fate i j now (Some p) None result w en eb ea er h = stays (en ∙ sym h ∙ er) (λ p q ep eq. absurd (none_is (sym ea ∙ eq)))
  fate i j now (Some p) (Some q) result w en eb ea er (kept o e1 e2 l) =
      let same : o ≡ w = some_is (sym e2 ∙ er) in
      stays (en ∙ e1 ∙ sym e2 ∙ er) (λ p' q' ep eq.
      let sp : p ≡ p' = some_is (sym eb ∙ ep) in
      let sq : q ≡ q' = some_is (sym ea ∙ eq) in
      omega (arith, ints, ap (λ (z : Entry). z.bound) same, ap (λ (z : Entry). z.bound) sp, ap (λ (z : Entry). z.bound) sq, l))
  fate i j now (Some p) (Some q) result w en eb ea er (replaced o e2 b m t s i') =
      let same : w ≡ o = sym (some_is (sym e2 ∙ er)) in
      moves p q eb ea (ap (λ (z : Entry). z.bound) same ∙ b) (ap (λ (z : Entry). z.number) same ∙ m) (ap (λ (z : Entry). z.next) same ∙ t) (ap (λ (z : Entry). z.length) same ∙ s)
      (λ x ex. let y : Improves (Some x) (p.bound +ℤ c.bound +ℤ q.bound) = subst (λ (z : Option Entry). Improves z (p.bound +ℤ c.bound +ℤ q.bound)) (sym en ∙ ex) i' in
      omega (arith, ints, ap (λ (z : Entry). z.bound) same, b, y))

  fate_of : (i j : ℕ) → i < n → j < n → (w : Entry) → entry_at vs i j ≡ Some w → Fate ws c number i j w
  fate_of i j li lj w e = fate i j _ _ _ _ w refl refl refl e (shorter i j li lj)

  -- an old bound is still there, or a lower one
  still_there : (i j : ℕ) → i < n → j < n → (x : Entry) → entry_at ws i j ≡ Some x → (y : Entry) × (entry_at vs i j ≡ Some y)
  still_there i j li lj x e =
      let a : AtMost (bound_at vs) i j x.bound = at_most-new i j li lj x.bound (old-at_most (bound_at ws) c.left c.right c.bound i j x.bound (ap entry_bound e)) in
      let w : EntryOf vs i j a.bound = entry_of vs i j a.bound a.is in
      (w.entry, w.is)

  over_there : (i j : ℕ) → i < n → j < n → (p q : Entry) → entry_at ws i c.left ≡ Some p → entry_at ws c.right j ≡ Some q → (y : Entry) × (entry_at vs i j ≡ Some y)
  over_there i j li lj p q e h =
      let a : AtMost (bound_at vs) i j _ = at_most-new i j li lj _ (over-at_most (bound_at ws) c.left c.right c.bound i j p.bound q.bound (ap entry_bound e) (ap entry_bound h)) in
      let w : EntryOf vs i j a.bound = entry_of vs i j a.bound a.is in
      (w.entry, w.is)

  -- an old edge and a way from its right node
  along_edge : (i m j : ℕ) → i < n → j < n → (edge : Constraint) → Contains cs edge → edge.left ≡ i → edge.right ≡ m → (r : Entry) → entry_at ws m j ≡ Some r → (x : Entry) × (entry_at ws i j ≡ Some x) × (x.bound ≤ℤ (edge.bound +ℤ r.bound))
  along_edge i m j li lj edge h el er r e =
      let a : AtMost (bound_at ws) edge.left edge.right edge.bound = k.covers.tight edge h in
      let first_is : bound_at ws i m ≡ Some a.bound = ap₂ (bound_at ws) (sym el) (sym er) ∙ a.is in
      let lm : m < n = subst (λ z. z < n) er (k.covers.right edge h) in
      let z : AtMost (bound_at ws) i j (a.bound +ℤ r.bound) = k.closed.closed i m j li lm lj a.bound r.bound first_is (ap entry_bound e) in
      let w : EntryOf ws i j z.bound = entry_of ws i j z.bound z.is in
      let s1 : a.bound ≤ℤ edge.bound = a.small in
      let s2 : z.bound ≤ℤ (a.bound +ℤ r.bound) = z.small in
      (w.entry, w.is, omega (arith, ints, w.bound))

  -- the way of the row of the right node stays
  row_stays : (j : ℕ) → j < n → (q : Entry) → entry_at ws c.right j ≡ Some q → entry_at vs c.right j ≡ Some q
  row_stays j lj q e =
      let s = still_there c.right j lb lj q e in
      from s.0 s.1 (fate_of c.right j lb lj s.0 s.1)
    where
      from : (y : Entry) → entry_at vs c.right j ≡ Some y → Fate ws c number c.right j y → entry_at vs c.right j ≡ Some q
      from y h (stays a b) = h ∙ sym a ∙ e
      from y h (moves p r ep er b m t s better) =
          let x : y.bound <ℤ q.bound = better q e in
          let same : r ≡ q = some_is (sym er ∙ e) in
          let round : pos 0 ≤ℤ (p.bound +ℤ c.bound) = g.agrees p.bound (ap entry_bound ep) in
          absurd (omega (arith, ints, b, ap (λ (z : Entry). z.bound) same))

  edge_in : (i j : ℕ) (w : Entry) → (x : Next cs ws i j w) → Contains cs x.edge
  edge_in i j w x = contains_at cs x.index x.edge x.at

  next_kept : (i j : ℕ) → i < n → j < n → (w : Entry) → (x : Next cs ws i j w) → ((p q : Entry) → entry_at ws i c.left ≡ Some p → entry_at ws c.right j ≡ Some q → w.bound ≤ℤ (p.bound +ℤ c.bound +ℤ q.bound)) → entry_at vs w.next j ≡ Some x.rest
  next_kept i j li lj w x least =
      let lm : w.next < n = subst (λ z. z < n) x.right (k.covers.right x.edge (edge_in i j w x)) in
      let s = still_there w.next j lm lj x.rest x.rest_is in
      from s.0 s.1 (fate_of w.next j lm lj s.0 s.1)
    where
      from : (y : Entry) → entry_at vs w.next j ≡ Some y → Fate ws c number w.next j y → entry_at vs w.next j ≡ Some x.rest
      from y h (stays a b) = h ∙ sym a ∙ x.rest_is
      from y h (moves p q ep eq b m t s better) =
          let low : y.bound <ℤ x.rest.bound = better x.rest x.rest_is in
          let a = along_edge i w.next c.left li la x.edge (edge_in i j w x) x.left x.right p ep in
          let l : w.bound ≤ℤ (a.0.bound +ℤ c.bound +ℤ q.bound) = least a.0 q a.1 eq in
          let u : a.0.bound ≤ℤ (x.edge.bound +ℤ p.bound) = a.2 in
          absurd (omega (arith, ints, b, x.sum))

  new_next : (i j : ℕ) → i < n → j < n → i ≢ j → (w : Entry) → entry_at vs i j ≡ Some w → Next (cs ++ c ∷ []) vs i j w
  new_next i j li lj ne w e = from (fate_of i j li lj w e)
    where
      from : Fate ws c number i j w → Next (cs ++ c ∷ []) vs i j w
      from (stays a least) =
          let x : Next cs ws i j w = k.next i j li lj ne w a in
          record { index = x.index; number = x.number; edge = x.edge; at = slice_get-append cs (c ∷ []) x.index x.edge x.at; left = x.left; right = x.right; rest = x.rest; rest_is = next_kept i j li lj w x least; sum = x.sum; long = x.long }
      from (moves p q ep eq b m t s better) = elim (same_or i c.left) [
        | inl at ↦
            let yes : nat_eq i c.left ≡ true = grind arith in
            let self : entry_at ws c.left c.left ≡ Some p = ap (λ z. entry_at ws z c.left) (sym at) ∙ ep in
            let short : p.length ≡ 0 = k.still c.left la p self in
            let nil : pos 0 ≡ p.bound = some_is (sym (k.closed.self c.left la) ∙ ap entry_bound self) in
            let to : w.next ≡ c.right = t ∙ ap (λ u. cond u c.right p.next) yes in
            record {
              index = length cs;
              number = m ∙ ap (λ u. cond u number p.number) yes ∙ is_number;
              edge = c;
              at = last_is cs c;
              left = sym at;
              right = sym to;
              rest = q;
              rest_is = ap (λ z. entry_at vs z j) to ∙ row_stays j lj q eq;
              sum = omega (arith, ints);
              long = omega (arith, s, short);
            }
        | inr away ↦
            let no : nat_eq i c.left ≡ false = grind arith in
            let x : Next cs ws i c.left p = k.next i c.left li la away p ep in
            let to : w.next ≡ p.next = t ∙ ap (λ u. cond u c.right p.next) no in
            let lm : p.next < n = subst (λ z. z < n) x.right (k.covers.right x.edge (edge_in i c.left p x)) in
            let o = over_there p.next j lm lj x.rest q x.rest_is eq in
            let r : (o.0.bound ≡ x.rest.bound +ℤ c.bound +ℤ q.bound) × (o.0.length ≡ x.rest.length + 1 + q.length) = onward x q eq b better lm o.0 o.1 (fate_of p.next j lm lj o.0 o.1) in
            record {
              index = x.index;
              number = m ∙ ap (λ u. cond u number p.number) no ∙ x.number;
              edge = x.edge;
              at = slice_get-append cs (c ∷ []) x.index x.edge x.at;
              left = x.left;
              right = x.right ∙ sym to;
              rest = o.0;
              rest_is = ap (λ z. entry_at vs z j) to ∙ o.1;
              sum = omega (arith, ints, b, x.sum, r.0);
              long = omega (arith, s, x.long, r.1);
            }
      ]
        where
          onward : {p : Entry} (x : Next cs ws i c.left p) (q : Entry) → entry_at ws c.right j ≡ Some q → w.bound ≡ p.bound +ℤ c.bound +ℤ q.bound → ((x : Entry) → entry_at ws i j ≡ Some x → w.bound <ℤ x.bound) → p.next < n → (y : Entry) → entry_at vs p.next j ≡ Some y → Fate ws c number p.next j y → (y.bound ≡ x.rest.bound +ℤ c.bound +ℤ q.bound) × (y.length ≡ x.rest.length + 1 + q.length)
          onward {p} x q eq b better lm y ey (moves p3 q3 e3 f3 b3 m3 t3 s3 better3) =
              let sp : p3 ≡ x.rest = some_is (sym e3 ∙ x.rest_is) in
              let sq : q3 ≡ q = some_is (sym f3 ∙ eq) in
              (omega (arith, ints, b3, ap (λ (z : Entry). z.bound) sp, ap (λ (z : Entry). z.bound) sq), omega (arith, s3, ap (λ (z : Entry). z.length) sp, ap (λ (z : Entry). z.length) sq))
          onward {p} x q eq b better lm y ey (stays a least) =
              let l : y.bound ≤ℤ (x.rest.bound +ℤ c.bound +ℤ q.bound) = least x.rest q x.rest_is eq in
              let z = along_edge i p.next j li lj x.edge (edge_in i c.left p x) x.left x.right y a in
              let u : z.0.bound ≤ℤ (x.edge.bound +ℤ y.bound) = z.2 in
              let v : w.bound <ℤ z.0.bound = better z.0 z.1 in
              absurd (omega (arith, ints, b, x.sum))

  new_still : (i : ℕ) → i < n → (w : Entry) → entry_at vs i i ≡ Some w → w.length ≡ 0
  new_still i li w e = from (fate_of i i li li w e)
    where
      from : Fate ws c number i i w → w.length ≡ 0
      from (stays a least) = k.still i li w a
      from (moves p q ep eq b m t s better) =
          let own = entry_of ws i i (pos 0) (k.closed.self i li) in
          let low : w.bound <ℤ own.entry.bound = better own.entry own.is in
          let r : AtMost (bound_at ws) c.right c.left (q.bound +ℤ p.bound) = k.closed.closed c.right i c.left lb li la q.bound p.bound (ap entry_bound eq) (ap entry_bound ep) in
          let x : pos 0 ≤ℤ (r.bound +ℤ c.bound) = g.agrees r.bound r.is in
          let y : r.bound ≤ℤ (q.bound +ℤ p.bound) = r.small in
          absurd (omega (arith, ints, b, own.bound))

  pub stays_tight : AreTight n (cs ++ c ∷ []) vs
  stays_tight = record {
    closed = new_closed;
    covers = record {
      left = λ d h. (new_side d (Contains-push_cases cs c d h)).0;
      right = λ d h. (new_side d (Contains-push_cases cs c d h)).1;
      tight = λ d h. new_tight d (Contains-push_cases cs c d h);
    };
    still = new_still;
    next = new_next;
  }
