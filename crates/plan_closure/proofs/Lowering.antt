-- Steps of the loops that write the table of distances.
use Rattle.std.proofs.Common.{◌≡◌, ◌≢◌, ℕ, ◌+◌, ◌*◌, ◌<◌, ◌≤◌, ℤ, pos, ◌+ℤ◌, ◌≤ℤ◌, ◌<ℤ◌, int_lt, cond, ◌⊎◌, inl, inr, ap, subst, List, [], ◌∷◌, ◌++◌, Option, None, Some, length, length-append, get_or, set, below_more, arith, get_or-set_other, get_or-set_same, refl, sym, ◌∙◌, Bool, true, false}
use Rattle.std.proofs.lemmas.Int.{ints, by_lt_z}
use Rattle.std.proofs.lemmas.List.{get_or_append_left, get_or_push}
use Rattle.plan_constraints.specs.declared.constraint.Constraint.{Constraint}
use Rattle.plan_constraints.specs.Table.{Table, AtMost, IsClosed}
use Rattle.plan_constraints.proofs.Options.{some_is, none_is}
use Rattle.plan_closure.specs.declared.distance.Distance.{Distance}
use Rattle.plan_closure.specs.Tightened.{through, lesser, tightened, Agrees}
use Rattle.plan_closure.specs.Shortest.{bound_of, no_distance, between, Undercuts, onward, IsKept, IsColumn, listed, kept, IsLowered, lowered, stays, Lowers}

-- ---- one bound

lesser_none : (x : Option ℤ) → lesser x None ≡ x
lesser_none None = refl
lesser_none (Some d) = refl

lesser_kept : (d s : ℤ) → d ≤ℤ s → lesser (Some d) (Some s) ≡ Some d
lesser_kept d s h = let e : int_lt s d ≡ false = grind (arith, ints) in ap (λ b. cond b (Some s) (Some d)) e

either_one : (b : Bool) (s : ℤ) → let A : Type 0 = Option ℤ in let o : A = Some s in cond b o o ≡ o
either_one true s = refl
either_one false s = refl

-- to take the lesser again changes nothing
lesser_twice : (x s : Option ℤ) → lesser (lesser x s) s ≡ lesser x s
lesser_twice None None = refl
lesser_twice None (Some s) = either_one (int_lt s s) s
lesser_twice (Some d) None = refl
lesser_twice (Some d) (Some s) = go (int_lt s d) refl
  where
    go : (u : Bool) → int_lt s d ≡ u → lesser (cond u (Some s) (Some d)) (Some s) ≡ cond u (Some s) (Some d)
    go true e = either_one (int_lt s s) s
    go false e = ap (λ b. cond b (Some s) (Some d)) e

-- the way over the new constraint in two steps
through_onward : (p c : ℤ) (y : Option ℤ) → onward (p +ℤ c) y ≡ through (Some p) c y
through_onward p c None = refl
through_onward p c (Some q) = refl

-- a bound of which the new constraint says nothing new
kept_over : (t : Table) (a b : ℕ) (c : ℤ) (i j : ℕ) → ((p q : ℤ) → t i a ≡ Some p → t b j ≡ Some q → AtMost t i j (p +ℤ c +ℤ q)) → t i j ≡ tightened t a b c i j
kept_over t a b c i j h = go (t i a) (t b j) refl refl
  where
    go : (x y : Option ℤ) → t i a ≡ x → t b j ≡ y → t i j ≡ lesser (t i j) (through x c y)
    go None y e f = sym (lesser_none (t i j))
    go (Some p) None e f = sym (lesser_none (t i j))
    go (Some p) (Some q) e f =
        let m : AtMost t i j (p +ℤ c +ℤ q) = h p q e f in
        m.is ∙ sym (lesser_kept m.bound (p +ℤ c +ℤ q) m.small) ∙ ap (λ o. lesser o (Some (p +ℤ c +ℤ q))) (sym m.is)

-- what is not undercut is there
not_undercut : (o : Option ℤ) (s : ℤ) → ¬ Undercuts o s → (r : ℤ) × (o ≡ Some r) × (r ≤ℤ s)
not_undercut None s n = absurd (n tt)
not_undercut (Some r) s n = (r, refl, by_lt_z s r (λ l. absurd (n l)) (λ l. omega (arith, ints, l)))

-- a node to which the bound gives the left one no lower bound
pub kept_if : (t : Table) (a b : ℕ) (c : ℤ) (j : ℕ) (after : ℤ) → t b j ≡ Some after → ¬ Undercuts (t a j) (c +ℤ after) → IsKept t a b c j
kept_if t a b c j after e n q f =
    let r = not_undercut (t a j) (c +ℤ after) n in
    let same : after ≡ q = some_is (sym e ∙ f) in
    let low : r.0 ≤ℤ (c +ℤ after) = r.2 in
    record { bound = r.0; is = r.1; small = omega (arith, ints, same, low) }

pub kept_none : (t : Table) (a b : ℕ) (c : ℤ) (j : ℕ) → t b j ≡ None → IsKept t a b c j
kept_none t a b c j e q f = absurd (none_is (sym e ∙ f))

-- ---- one row

same_or : (i j : ℕ) → (i ≡ j) ⊎ (i ≢ j)
same_or i j = grind arith

sides : (i r : ℕ) → i ≢ r → (i < r) ⊎ (r < i)
sides i r ne = grind arith

-- another row stays
pub row_stays : (ds es : List Distance) (i r : ℕ) (columns : List ℕ) (n : ℕ) (head : ℤ) (j : ℕ) → i ≢ r → j < 13 → Lowers ds i r columns n head es → get_or es (13 * r + j) no_distance ≡ get_or ds (13 * r + j) no_distance
row_stays ds es i r columns n head j ne lj w = elim (sides i r ne) [
  | inl lt ↦ w.later (13 * r + j) (omega arith)
  | inr gt ↦ w.before (13 * r + j) (omega arith)
]

-- one column more
pub lowers_more : (ds vs : List Distance) (i r : ℕ) (columns : List ℕ) (k : ℕ) (head : ℤ) (j : ℕ) (o : Distance) → i ≢ r → j < 13 → 13 * i + j < length vs → get_or columns k 0 ≡ j → Lowers ds i r columns k head vs
    → bound_of o ≡ lesser (between vs i j) (onward head (between vs r j)) → Lowers ds i r columns (k + 1) head (set vs (13 * i + j) o)
lowers_more ds vs i r columns k head j o ne lj l at w e = record {
  here = λ m lm. elim (same_or m j) [
    | inl q ↦ subst (λ z. IsLowered ds i r columns (k + 1) head (set vs (13 * i + j) o) z) (sym q) (new (w.here j lj))
    | inr q ↦ other m q (w.here m lm)
  ];
  before = λ z g. let n : z ≢ 13 * i + j = omega arith in rw get_or-set_other (w.before z g);
  later = λ z g. let n : z ≢ 13 * i + j = omega arith in rw get_or-set_other (w.later z g);
}
  where
    there : between vs r j ≡ between ds r j
    there = ap bound_of (row_stays ds vs i r columns k head j ne lj w)

    written : get_or (set vs (13 * i + j) o) (13 * i + j) no_distance ≡ o
    written = rw get_or-set_same refl

    is : between (set vs (13 * i + j) o) i j ≡ lesser (between vs i j) (onward head (between ds r j))
    is = ap bound_of written ∙ e ∙ ap (λ y. lesser (between vs i j) (onward head y)) there

    new : IsLowered ds i r columns k head vs j → IsLowered ds i r columns (k + 1) head (set vs (13 * i + j) o) j
    new (lowered h) = lowered (is ∙ ap (λ x. lesser x (onward head (between ds r j))) h ∙ lesser_twice (between ds i j) (onward head (between ds r j)))
    new (stays h n) = lowered (is ∙ ap (λ x. lesser x (onward head (between ds r j))) (ap bound_of h))

    place : (m : ℕ) → m ≢ j → get_or (set vs (13 * i + j) o) (13 * i + m) no_distance ≡ get_or vs (13 * i + m) no_distance
    place m q = let n : 13 * i + m ≢ 13 * i + j = omega arith in rw get_or-set_other refl

    other : (m : ℕ) → m ≢ j → IsLowered ds i r columns k head vs m → IsLowered ds i r columns (k + 1) head (set vs (13 * i + j) o) m
    other m q (lowered h) = lowered (ap bound_of (place m q) ∙ h)
    other m q (stays h n) = stays (place m q ∙ h) (λ z lz. below_more (λ z. get_or columns z 0 ≢ m) k n (λ f. q (sym f ∙ at)) z lz)

-- ---- all rows

module _ (n : ℕ) (few : n ≤ 13) (ds : List Distance) (c : Constraint) (la : c.left < n) (lb : c.right < n) (closed : IsClosed n (between ds)) (agree : Agrees (between ds) c.left c.right c.bound) (vs : List Distance) (i : ℕ) (li : i < n)
    (done : (m j : ℕ) → m < i → j < n → between vs m j ≡ tightened (between ds) c.left c.right c.bound m j) (same : (k : ℕ) → 13 * i ≤ k → get_or vs k no_distance ≡ get_or ds k no_distance) where
  here : (j : ℕ) → between vs i j ≡ between ds i j
  here j = ap bound_of (same (13 * i + j) (omega arith))

  more : (us : List Distance) → ((m j : ℕ) → m < i → j < n → between us m j ≡ between vs m j) → ((j : ℕ) → j < n → between us i j ≡ tightened (between ds) c.left c.right c.bound i j) → (m j : ℕ) → m < i + 1 → j < n → between us m j ≡ tightened (between ds) c.left c.right c.bound m j
  more us old new = λ m j lm lj. below_more (λ m. (j : ℕ) → j < n → between us m j ≡ tightened (between ds) c.left c.right c.bound m j) i (λ m lm j lj. old m j lm lj ∙ done m j lm lj) new m lm j lj

  -- a row with no way to the left node
  pub row_none : between vs i c.left ≡ None → (m j : ℕ) → m < i + 1 → j < n → between vs m j ≡ tightened (between ds) c.left c.right c.bound m j
  row_none e = more vs (λ m j lm lj. refl) (λ j lj. here j ∙ kept_over (between ds) c.left c.right c.bound i j (λ p q ep eq. absurd (none_is (sym e ∙ here c.left ∙ ep))))

  -- a row whose way to the right node is no longer than that over the new constraint
  pub row_high : (p : ℤ) → between vs i c.left ≡ Some p → ¬ Undercuts (between vs i c.right) (p +ℤ c.bound) → (m j : ℕ) → m < i + 1 → j < n → between vs m j ≡ tightened (between ds) c.left c.right c.bound m j
  row_high p e h = more vs (λ m j lm lj. refl) (λ j lj. here j ∙ kept_over (between ds) c.left c.right c.bound i j (over j lj))
    where
      over : (j : ℕ) → j < n → (p' q : ℤ) → between ds i c.left ≡ Some p' → between ds c.right j ≡ Some q → AtMost (between ds) i j (p' +ℤ c.bound +ℤ q)
      over j lj p' q ep eq =
          let r = not_undercut (between vs i c.right) (p +ℤ c.bound) h in
          let at : between ds i c.right ≡ Some r.0 = sym (here c.right) ∙ r.1 in
          let low : r.0 ≤ℤ (p +ℤ c.bound) = r.2 in
          let sp : p ≡ p' = some_is (sym e ∙ here c.left ∙ ep) in
          let m : AtMost (between ds) i j (r.0 +ℤ q) = closed.closed i c.right j li lb lj r.0 q at eq in
          let small : m.bound ≤ℤ (r.0 +ℤ q) = m.small in
          record { bound = m.bound; is = m.is; small = omega (arith, ints, sp, low, small) }

  -- the row of the right node is never lowered
  pub row_apart : (p : ℤ) → between vs i c.left ≡ Some p → Undercuts (between vs i c.right) (p +ℤ c.bound) → i ≢ c.right
  row_apart p e u = λ s.
      let own : between vs i c.right ≡ Some (pos 0) = here c.right ∙ ap (λ z. between ds z c.right) s ∙ closed.self c.right lb in
      let back : between ds c.right c.left ≡ Some p = ap (λ z. between ds z c.left) (sym s) ∙ sym (here c.left) ∙ e in
      let round : pos 0 ≤ℤ (p +ℤ c.bound) = agree.agrees p back in
      let less : (p +ℤ c.bound) <ℤ pos 0 = subst (λ o. Undercuts o (p +ℤ c.bound)) own u in
      absurd (omega (arith, ints, round, less))

  -- a row that is lowered
  pub row_lowered : (us : List Distance) (columns : List ℕ) (p : ℤ) → between vs i c.left ≡ Some p → ((j : ℕ) → j < 13 → get_or vs (13 * c.right + j) no_distance ≡ get_or ds (13 * c.right + j) no_distance)
      → ((j : ℕ) → j < n → IsColumn (between ds) c.left c.right c.bound columns j) → Lowers vs i c.right columns (length columns) (p +ℤ c.bound) us → (m j : ℕ) → m < i + 1 → j < n → between us m j ≡ tightened (between ds) c.left c.right c.bound m j
  row_lowered us columns p e right cols w = more us (λ m j lm lj. ap bound_of (w.before (13 * m + j) (omega arith))) (λ j lj. new j lj (w.here j (omega arith)) (cols j lj))
    where
      first : between ds i c.left ≡ Some p
      first = sym (here c.left) ∙ e

      step : (j : ℕ) → j < n → lesser (between vs i j) (onward (p +ℤ c.bound) (between vs c.right j)) ≡ tightened (between ds) c.left c.right c.bound i j
      step j lj =
          ap (λ x. lesser x (onward (p +ℤ c.bound) (between vs c.right j))) (here j)
          ∙ ap (λ y. lesser (between ds i j) (onward (p +ℤ c.bound) y)) (ap bound_of (right j (omega arith)))
          ∙ ap (λ z. lesser (between ds i j) z) (through_onward p c.bound (between ds c.right j))
          ∙ ap (λ x. lesser (between ds i j) (through x c.bound (between ds c.right j))) (sym first)

      over : (j : ℕ) → j < n → IsKept (between ds) c.left c.right c.bound j → (p' q : ℤ) → between ds i c.left ≡ Some p' → between ds c.right j ≡ Some q → AtMost (between ds) i j (p' +ℤ c.bound +ℤ q)
      over j lj k p' q ep eq =
          let r : AtMost (between ds) c.left j (c.bound +ℤ q) = k q eq in
          let m : AtMost (between ds) i j (p' +ℤ r.bound) = closed.closed i c.left j li la lj p' r.bound ep r.is in
          let low : r.bound ≤ℤ (c.bound +ℤ q) = r.small in
          let small : m.bound ≤ℤ (p' +ℤ r.bound) = m.small in
          record { bound = m.bound; is = m.is; small = omega (arith, ints, low, small) }

      new : (j : ℕ) → j < n → IsLowered vs i c.right columns (length columns) (p +ℤ c.bound) us j → IsColumn (between ds) c.left c.right c.bound columns j → between us i j ≡ tightened (between ds) c.left c.right c.bound i j
      new j lj (lowered h) k = h ∙ step j lj
      new j lj (stays h f) (listed m lm at) = absurd (f m lm at)
      new j lj (stays h f) (kept k) = ap bound_of h ∙ here j ∙ kept_over (between ds) c.left c.right c.bound i j (over j lj k)

-- a fact of each place below k, and of what is written at k
pub set_more : (P : ℕ → Distance → Type 0) (ws : List Distance) (k : ℕ) (r : Distance) → k < length ws → ((m : ℕ) → m < k → P m (get_or ws m no_distance)) → P k r → (m : ℕ) → m < k + 1 → P m (get_or (set ws k r) m no_distance)
set_more P ws k r l f h =
    below_more (λ m. P m (get_or (set ws k r) m no_distance)) k
    (λ m lm. let ne : m ≢ k = omega arith in rw get_or-set_other (f m lm))
    (rw get_or-set_same h)

-- ---- the columns

-- one column more
pub columns_more : (t : Table) (a b : ℕ) (c : ℤ) (columns : List ℕ) (i : ℕ) → ((j : ℕ) → j < i → IsColumn t a b c columns j) → (j : ℕ) → j < i + 1 → IsColumn t a b c (columns ++ i ∷ []) j
columns_more t a b c columns i old = below_more (IsColumn t a b c (columns ++ i ∷ [])) i (λ j lj. longer j (old j lj)) last
  where
    longer : (j : ℕ) → IsColumn t a b c columns j → IsColumn t a b c (columns ++ i ∷ []) j
    longer j (listed m lm at) = listed m (omega (arith, lm, length-append columns (i ∷ []))) (get_or_append_left columns (i ∷ []) 0 m lm ∙ at)
    longer j (kept k) = kept k

    last : IsColumn t a b c (columns ++ i ∷ []) i
    last = listed (length columns) (omega (arith, length-append columns (i ∷ []))) (get_or_push columns i 0 (length columns) refl)

pub within_more : (columns : List ℕ) (n i : ℕ) → i < n → ((m : ℕ) → m < length columns → get_or columns m 0 < n) → (m : ℕ) → m < length (columns ++ i ∷ []) → get_or (columns ++ i ∷ []) m 0 < n
within_more columns n i l old m lm =
    below_more (λ m. get_or (columns ++ i ∷ []) m 0 < n) (length columns)
    (λ m lm. subst (λ z. z < n) (sym (get_or_append_left columns (i ∷ []) 0 m lm)) (old m lm))
    (subst (λ z. z < n) (sym (get_or_push columns i 0 (length columns) refl)) l)
    m (omega (arith, lm, length-append columns (i ∷ [])))

-- none more
pub columns_same : (t : Table) (a b : ℕ) (c : ℤ) (columns : List ℕ) (i : ℕ) → ((j : ℕ) → j < i → IsColumn t a b c columns j) → IsKept t a b c i → (j : ℕ) → j < i + 1 → IsColumn t a b c columns j
columns_same t a b c columns i old k = below_more (IsColumn t a b c columns) i old (kept k)
