-- What distances keep, by the closure whose bounds they are.
use Rattle.std.proofs.Common.{◌≡◌, ℕ, zero, suc, ◌+◌, ◌*◌, ◌/◌, ◌%◌, ◌<◌, ◌≤◌, ℤ, pos, ◌+ℤ◌, ◌≤ℤ◌, ◌<ℤ◌, int_lt, cond, nat_eq, ap, subst, List, [], ◌∷◌, ◌++◌, Option, None, Some, is_some, length, length-append, get_or, arith, refl, sym, ◌∙◌, Bool, true, false, not}
use Rattle.std.proofs.lemmas.Int.{ints, by_lt_z}
use Rattle.plan_constraints.specs.declared.constraint.Constraint.{Constraint}
use Rattle.plan_constraints.specs.Solutions.{IsWithin, IsSatisfiable, Allows, Implies, IsUpperAnswer}
use Rattle.plan_constraints.specs.Table.{Table, AtMost, IsClosed}
use Rattle.plan_closure.specs.declared.entry.Entry.{Entry}
use Rattle.plan_closure.specs.declared.distance.Distance.{Distance}
use Rattle.plan_closure.specs.declared.distances.Distances.{Distances}
use Rattle.plan_closure.specs.Answers.{IsSmall}
use Rattle.plan_closure.specs.Entries.{entry_bound, IsBetter, kept, replaced, IsShorter, IsShorterAt, head_of, walked, IsUnlinked, self, other, IsUnlinkedAt, IsModest}
use Rattle.plan_closure.specs.Cycles.{IsImplied, IsClosing, closes}
use Rattle.plan_closure.specs.Closure.{entry_at, bound_at, AreTight, IsSettled}
use Rattle.plan_closure.specs.Tightened.{lesser, through, tightened, Agrees}
use Rattle.plan_closure.specs.Shortest.{bound_of, no_distance, between, IsMet, Closes, IsApart, AreDistancesOf, AreSatisfiable}
use Rattle.plan_closure.specs.Shortest as shortest
use Rattle.plan_closure.proofs.Add.{tight_when, broken_when, negative_by, modest_at, closure_with, settled_same, implied_tight}
use Rattle.plan_closure.proofs.Allowed.{never_allowed, allowed, not_allowed, all_implied, implied_if, bound_if_implied}
use Rattle.plan_closure.proofs.Facts.{start_closure, satisfiable_is}
use Rattle.plan_closure.proofs.Keep.{stays_tight, shorter_bound}
use Rattle.plan_closure.proofs.Upper.{upper_some, upper_none}

-- ---- the ways that one constraint more leaves

joined : Entry → Entry → Entry
joined h q = record { bound = h.bound +ℤ q.bound; number = h.number; next = h.next; length = h.length + q.length }

better : Option Entry → Entry → Entry → Option Entry
better None h q = Some (joined h q)
better (Some w) h q = cond (int_lt (h.bound +ℤ q.bound) w.bound) (Some (joined h q)) (Some w)

better_is : (now : Option Entry) (h q : Entry) → IsBetter now h q (better now h q)
unfolding better joined
better_is None h q = replaced (joined h q) refl refl refl refl refl tt
better_is (Some w) h q = go (int_lt (h.bound +ℤ q.bound) w.bound) refl
  where
    go : (u : Bool) → int_lt (h.bound +ℤ q.bound) w.bound ≡ u → IsBetter (Some w) h q (cond u (Some (joined h q)) (Some w))
    go true e = let l : (h.bound +ℤ q.bound) <ℤ w.bound = grind (arith, ints, e) in replaced (joined h q) refl refl refl refl refl l
    go false e = let l : w.bound ≤ℤ (h.bound +ℤ q.bound) = grind (arith, ints, e) in kept w refl refl l

shorter : Option Entry → Option Entry → Bool → Constraint → ℕ → Option Entry → Option Entry
shorter now None here c number after = now
shorter now (Some p) here c number None = now
shorter now (Some p) here c number (Some q) = better now (head_of p here c number) q

shorter_is : (now before : Option Entry) (here : Bool) (c : Constraint) (number : ℕ) (after : Option Entry) → IsShorter now before here c number after (shorter now before here c number after)
unfolding shorter
shorter_is now None here c number after = refl
shorter_is now (Some p) here c number None = refl
shorter_is now (Some p) here c number (Some q) = better_is now (head_of p here c number) q

-- f s, f (s + 1) and so on, n of them
listed : (ℕ → Option Entry) → ℕ → ℕ → List (Option Entry)
listed f zero s = []
listed f (suc n) s = f s ∷ listed f n (suc s)

listed_at : (f : ℕ → Option Entry) (n s k : ℕ) → k < n → get_or (listed f n s) k None ≡ f (s + k)
unfolding listed
listed_at f zero s k l = absurd (omega (arith, l))
listed_at f (suc n) s zero l = let e : s ≡ s + 0 = omega arith in ap f e
listed_at f (suc n) s (suc k) l = let e : suc s + k ≡ s + suc k = omega arith in listed_at f n (suc s) k (omega (arith, l)) ∙ ap f e

listed_first : (f : ℕ → Option Entry) (n k : ℕ) → k < n → get_or (listed f n 0) k None ≡ f k
listed_first f n k l = let e : 0 + k ≡ k = omega arith in listed_at f n 0 k l ∙ ap f e

place : List (Option Entry) → Constraint → ℕ → ℕ → Option Entry
place ws c number k = shorter (get_or ws k None) (get_or ws (13 * (k / 13) + c.left) None) (nat_eq (k / 13) c.left) c number (get_or ws (13 * c.right + k % 13) None)

place_is : (ws : List (Option Entry)) (c : Constraint) (number k : ℕ) → k < 169 → IsShorterAt ws c number (listed (place ws c number) 169 0) k
unfolding place
place_is ws c number k l =
    let e : get_or (listed (place ws c number) 169 0) k None ≡ place ws c number k = listed_first (place ws c number) 169 k l in
    subst (λ (o : Option Entry). IsShorter (get_or ws k None) (get_or ws (13 * (k / 13) + c.left) None) (nat_eq (k / 13) c.left) c number (get_or ws (13 * c.right + k % 13) None) o) (sym e)
    (shorter_is (get_or ws k None) (get_or ws (13 * (k / 13) + c.left) None) (nat_eq (k / 13) c.left) c number (get_or ws (13 * c.right + k % 13) None))

table_is : (ws vs : List (Option Entry)) (c : Constraint) (number i j : ℕ) → j < 13 → IsShorterAt ws c number vs (13 * i + j) → bound_at vs i j ≡ tightened (bound_at ws) c.left c.right c.bound i j
table_is ws vs c number i j lj h =
    let r : (13 * i + j) / 13 ≡ i = omega arith in
    let s : (13 * i + j) % 13 ≡ j = omega arith in
    let g : IsShorter (entry_at ws i j) (entry_at ws i c.left) (nat_eq i c.left) c number (entry_at ws c.right j) (entry_at vs i j) = rw (r, s) at h in
    shorter_bound _ _ (nat_eq i c.left) c number _ _ g

-- ---- tables that are equal in the first n nodes

agrees_same : (n : ℕ) (t u : Table) (a b : ℕ) (c : ℤ) → a < n → b < n → ((i j : ℕ) → i < n → j < n → t i j ≡ u i j) → Agrees t a b c → Agrees u a b c
agrees_same n t u a b c la lb e g = record { agrees = λ r f. g.agrees r (e b a lb la ∙ f) }

closed_same : (n : ℕ) (t u : Table) → ((i j : ℕ) → i < n → j < n → t i j ≡ u i j) → IsClosed n u → IsClosed n t
closed_same n t u e k = record {
  self = λ i l. e i i l l ∙ k.self i l;
  closed = λ i j m li lj lm p q f g.
      let r : AtMost u i m (p +ℤ q) = k.closed i j m li lj lm p q (sym (e i j li lj) ∙ f) (sym (e j m lj lm) ∙ g) in
      record { bound = r.bound; is = e i m li lm ∙ r.is; small = r.small };
}

tightened_same : (n : ℕ) (t u : Table) (a b : ℕ) (c : ℤ) → a < n → b < n → ((i j : ℕ) → i < n → j < n → t i j ≡ u i j) → (i j : ℕ) → i < n → j < n → tightened t a b c i j ≡ tightened u a b c i j
tightened_same n t u a b c la lb e i j li lj =
    ap (λ x. lesser x (through (t i a) c (t b j))) (e i j li lj) ∙ ap (λ x. lesser (u i j) (through x c (t b j))) (e i a li la) ∙ ap (λ y. lesser (u i j) (through (u i a) c y)) (e b j lb lj)

-- ---- the distances of some constraints

-- no constraint
pub start_distances : (d : Distances) (n : ℕ) → n < 13 → d.attrs ≡ n → d.broken ≡ false → ((k : ℕ) → k < 169 → IsApart (k / 13) (k % 13) (bound_of (get_or d.table k no_distance))) → AreDistancesOf d n []
start_distances d n l a b f = record {
  entries = listed start 169 0;
  cycle = None;
  closure = start_closure _ n l refl refl refl unlinked_at;
  attrs = a;
  broken = b;
  same = same;
}
  where
    nothing : Entry
    nothing = record { bound = pos 0; number = 0; next = 0; length = 0 }

    start : ℕ → Option Entry
    start k = cond (nat_eq (k / 13) (k % 13)) (Some nothing) None

    start_is : (k : ℕ) → k < 169 → get_or (listed start 169 0) k None ≡ start k
    start_is k lk = listed_first start 169 k lk

    unlinked : (k : ℕ) → IsUnlinked (k / 13) (k % 13) (start k)
    unlinked k = go (nat_eq (k / 13) (k % 13)) refl
      where
        go : (u : Bool) → nat_eq (k / 13) (k % 13) ≡ u → IsUnlinked (k / 13) (k % 13) (cond u (Some nothing) None)
        go true e = self nothing (grind (arith, e)) refl refl refl
        go false e = other (grind (arith, e)) refl

    unlinked_at : (k : ℕ) → k < 169 → IsUnlinkedAt (listed start 169 0) k
    unlinked_at k lk = subst (λ (o : Option Entry). IsUnlinked (k / 13) (k % 13) o) (sym (start_is k lk)) (unlinked k)

    equal : (x y : ℕ) (o : Option ℤ) (w : Option Entry) → IsApart x y o → IsUnlinked x y w → o ≡ entry_bound w
    equal x y o w (shortest.self e p) (self z g h m len) = p ∙ sym (ap entry_bound h ∙ ap (λ v. let A : Type 0 = Option ℤ in let r : A = Some v in r) m)
    equal x y o w (shortest.self e p) (other n h) = absurd (n e)
    equal x y o w (shortest.other n p) (self z g h m len) = absurd (n g)
    equal x y o w (shortest.other n p) (other n' h) = p ∙ sym (ap entry_bound h)

    same : (i j : ℕ) → i < suc n → j < suc n → between d.table i j ≡ bound_at (listed start 169 0) i j
    same i j li lj = equal _ _ _ _ (f (13 * i + j) (omega (arith, li, lj, l))) (unlinked_at (13 * i + j) (omega (arith, li, lj, l)))

module _ (d : Distances) (n : ℕ) (cs : List Constraint) (h : AreDistancesOf d n cs) where
  few : suc n ≤ 13
  few = let l : n < 13 = h.closure.few in omega (arith, l)

  pub few_attrs : d.attrs < 13
  few_attrs = let l : n < 13 = h.closure.few in omega (arith, l, h.attrs)

  tight : d.broken ≡ false → AreTight (suc n) cs h.entries
  tight e = tight_when (suc n) cs h.entries h.cycle d.broken h.closure.settled h.broken e

  small_way : (o : Option Entry) → IsModest o → IsSmall (entry_bound o)
  small_way None m = tt
  small_way (Some w) m = (m.low, m.high)

  -- bounds are within 10^17
  pub small : d.broken ≡ false → (i j : ℕ) → i < suc n → j < suc n → IsSmall (between d.table i j)
  small e i j li lj = subst IsSmall (sym (h.same i j li lj)) (small_way (entry_at h.entries i j) (modest_at (suc n) few cs h.entries (tight e) h.closure.modest i j li lj))

  pub closed : d.broken ≡ false → IsClosed (suc n) (between d.table)
  closed e = closed_same (suc n) (between d.table) (bound_at h.entries) h.same (tight e).closed

  pub satisfiable : (not d.broken ≡ true → IsSatisfiable cs) × (IsSatisfiable cs → not d.broken ≡ true)
  satisfiable = rw h.broken (satisfiable_is (suc n) cs h.entries h.cycle h.closure.settled)

  -- the least bound of each two nodes
  pub upper_is : d.broken ≡ false → (i j : ℕ) → i < suc n → j < suc n → IsUpperAnswer cs i j (between d.table i j)
  upper_is b i j li lj = subst (IsUpperAnswer cs i j) (sym (h.same i j li lj)) (go (entry_at h.entries i j) refl)
    where
      t : AreTight (suc n) cs h.entries
      t = tight b

      go : (o : Option Entry) → entry_at h.entries i j ≡ o → IsUpperAnswer cs i j (entry_bound o)
      go None e = upper_none (suc n) few cs h.entries t h.closure.modest i j li lj e
      go (Some w) e = upper_some (suc n) few cs h.entries t h.closure.modest i j li lj w e

  module _ (c : Constraint) (w : IsWithin d.attrs c) where
    la : c.left < suc n
    la = let l : c.left ≤ d.attrs = w.left in omega (arith, l, h.attrs)

    lb : c.right < suc n
    lb = let l : c.right ≤ d.attrs = w.right in omega (arith, l, h.attrs)

    met_way : (o : Option Entry) → IsMet (entry_bound o) c.bound → IsImplied o c.bound
    met_way None m = m
    met_way (Some v) m = m

    way_met : (o : Option Entry) → IsImplied o c.bound → IsMet (entry_bound o) c.bound
    way_met None m = m
    way_met (Some v) m = m

    has_way : IsMet (between d.table c.left c.right) c.bound → IsImplied (entry_at h.entries c.left c.right) c.bound
    has_way m = met_way (entry_at h.entries c.left c.right) (subst (λ o. IsMet o c.bound) (h.same c.left c.right la lb) m)

    -- what is implied
    pub implied : d.broken ≡ false → (IsMet (between d.table c.left c.right) c.bound → Implies cs c) × (Implies cs c → IsMet (between d.table c.left c.right) c.bound)
    implied e = (
      (λ m. implied_if (suc n) cs h.entries h.cycle c h.closure.settled la lb (has_way m)),
      (λ i. subst (λ o. IsMet o c.bound) (sym (h.same c.left c.right la lb)) (way_met (entry_at h.entries c.left c.right) (bound_if_implied (suc n) few cs h.entries c (tight e) h.closure.modest la lb i))),
    )

    pub always_implied : d.broken ≡ true → Implies cs c
    always_implied e = all_implied (suc n) cs h.entries h.cycle c d.broken h.closure.settled h.broken e

    -- what is allowed
    pub never : d.broken ≡ true → Allows cs c → ⊥
    never e = never_allowed (suc n) cs h.entries h.cycle c d.broken h.closure.settled h.broken e

    back : (v : Entry) → entry_at h.entries c.right c.left ≡ Some v → between d.table c.right c.left ≡ Some v.bound
    back v e = h.same c.right c.left lb la ∙ ap entry_bound e

    pub allowed_if : d.broken ≡ false → ¬ Closes (between d.table c.right c.left) c.bound → Allows cs c
    allowed_if e free = allowed (suc n) cs h.entries c (tight e) la lb (λ v f. by_lt_z (v.bound +ℤ c.bound) (pos 0) (λ l. absurd (free (subst (λ o. Closes o c.bound) (sym (back v f)) l))) (λ l. l))

    closing : Closes (between d.table c.right c.left) c.bound → (v : Entry) × (entry_at h.entries c.right c.left ≡ Some v) × ((v.bound +ℤ c.bound) <ℤ pos 0)
    closing l = go (entry_at h.entries c.right c.left) refl (subst (λ o. Closes o c.bound) (h.same c.right c.left lb la) l)
      where
        go : (o : Option Entry) → entry_at h.entries c.right c.left ≡ o → Closes (entry_bound o) c.bound → (v : Entry) × (entry_at h.entries c.right c.left ≡ Some v) × ((v.bound +ℤ c.bound) <ℤ pos 0)
        go None e m = absurd m
        go (Some v) e m = (v, e, m)

    pub not_allowed_if : Closes (between d.table c.right c.left) c.bound → Allows cs c → ⊥
    not_allowed_if l s = let r = closing l in not_allowed (suc n) few cs h.entries h.cycle c r.0 h.closure.settled la lb r.1 r.2 s

    pub agrees_if : ¬ Closes (between d.table c.right c.left) c.bound → Agrees (between d.table) c.left c.right c.bound
    agrees_if free = record { agrees = λ r f. by_lt_z (r +ℤ c.bound) (pos 0) (λ l. absurd (free (subst (λ o. Closes o c.bound) (sym f) l))) (λ l. l) }

    -- the distances with the constraint
    build : (r : Distances) (ws : List (Option Entry)) (o : Option (List ℕ)) → r.attrs ≡ d.attrs → r.broken ≡ is_some o → ((i j : ℕ) → i < suc n → j < suc n → between r.table i j ≡ bound_at ws i j) → IsSettled (suc n) (cs ++ c ∷ []) ws o → AreDistancesOf r n (cs ++ c ∷ [])
    build r ws o ea eb es s = record {
      entries = ws;
      cycle = o;
      closure = closure_with _ record { attrs = n; count = length (cs ++ c ∷ []); entries = ws; cycle = o } n cs c h.closure refl (length-append cs (c ∷ [])) la lb w.low w.high s;
      attrs = ea ∙ h.attrs;
      broken = eb;
      same = es;
    }

    pub added_broken : d.broken ≡ true → AreDistancesOf d n (cs ++ c ∷ [])
    added_broken e = build d h.entries h.cycle refl h.broken h.same (broken_when (suc n) cs (c ∷ []) h.entries h.cycle d.broken h.closure.settled h.broken e)

    pub added_implied : d.broken ≡ false → IsMet (between d.table c.left c.right) c.bound → AreDistancesOf d n (cs ++ c ∷ [])
    added_implied e m = build d h.entries h.cycle refl h.broken h.same (settled_same (suc n) (cs ++ c ∷ []) h.entries h.cycle d.broken h.broken e (implied_tight (suc n) cs h.entries c (tight e) la lb (has_way m)))

    pub added_closing : (r : Distances) → r.attrs ≡ d.attrs → r.broken ≡ true → r.table ≡ d.table → d.broken ≡ false → Closes (between d.table c.right c.left) c.bound → AreDistancesOf r n (cs ++ c ∷ [])
    added_closing r ea eb et e l =
        let g = closing l in
        let y : List ℕ = suc (length cs) ∷ walked h.entries g.0.length c.right c.left in
        let k : IsClosing (entry_at h.entries c.right c.left) c.bound (suc (length cs)) (λ m. walked h.entries m c.right c.left) (Some y) =
        subst (λ o. IsClosing o c.bound (suc (length cs)) (λ m. walked h.entries m c.right c.left) (Some y)) (sym g.1) (closes refl g.2) in
        build r h.entries (Some y) ea eb (λ i j li lj. ap (λ (t : List Distance). between t i j) et ∙ h.same i j li lj) (negative_by (suc n) cs h.entries h.entries c (tight e) la lb y (suc (length cs)) refl k)

    pub added_tight : (r : Distances) → r.attrs ≡ d.attrs → r.broken ≡ d.broken → d.broken ≡ false → ¬ Closes (between d.table c.right c.left) c.bound
        → ((i j : ℕ) → i < suc n → j < suc n → between r.table i j ≡ tightened (between d.table) c.left c.right c.bound i j) → AreDistancesOf r n (cs ++ c ∷ [])
    added_tight r ea eb e free f = build r vs h.cycle ea (eb ∙ h.broken) same (settled_same (suc n) (cs ++ c ∷ []) vs h.cycle d.broken h.broken e t)
      where
        vs : List (Option Entry)
        vs = listed (place h.entries c (suc (length cs))) 169 0

        at : (i j : ℕ) → i < suc n → j < suc n → IsShorterAt h.entries c (suc (length cs)) vs (13 * i + j)
        at i j li lj = place_is h.entries c (suc (length cs)) (13 * i + j) (omega (arith, li, lj, few))

        g : Agrees (bound_at h.entries) c.left c.right c.bound
        g = agrees_same (suc n) (between d.table) (bound_at h.entries) c.left c.right c.bound la lb h.same (agrees_if free)

        t : AreTight (suc n) (cs ++ c ∷ []) vs
        t = stays_tight (suc n) few cs h.entries (tight e) c la lb g (suc (length cs)) refl vs at

        same : (i j : ℕ) → i < suc n → j < suc n → between r.table i j ≡ bound_at vs i j
        same i j li lj =
            f i j li lj ∙ tightened_same (suc n) (between d.table) (bound_at h.entries) c.left c.right c.bound la lb h.same i j li lj
            ∙ sym (table_is h.entries vs c (suc (length cs)) i j (omega (arith, lj, few)) (at i j li lj))

-- distances of constraints that some integers meet are not broken
pub whole : (d : Distances) → AreSatisfiable d → d.broken ≡ false
whole d h = go d.broken refl
  where
    go : (b : Bool) → d.broken ≡ b → b ≡ false
    go true e = let f : not d.broken ≡ true = (satisfiable d d.attrs h.constraints h.distances).1 h.satisfiable in cc
    go false e = refl
