-- A solution in which one node has a given value within its bounds.
use Rattle.std.proofs.Common.{◌≡◌, ◌≢◌, ℕ, zero, suc, ◌+◌, ◌<◌, ℤ, pos, neg_ℤ, ◌+ℤ◌, ◌-ℤ◌, ◌≤ℤ◌, ◌⊎◌, inl, inr, refl, sym, ◌∙◌, ap, arith, Some, List, [], ◌∷◌, ◌++◌, length, get_or, below_more}
use Rattle.std.proofs.lemmas.Int.{ints}
use Rattle.plan_constraints.specs.declared.constraint.Constraint.{Constraint}
use Rattle.plan_constraints.specs.Table.{Table, AtMost, IsClosed, Covers}
use Rattle.plan_constraints.specs.Reach.{reach}
use Rattle.plan_closure.specs.Pinned.{pinned}
use Rattle.plan_constraints.specs.Solutions.{Solves}
use Rattle.plan_closure.specs.Answers.{at_nodes}
use Rattle.plan_constraints.proofs.Closed.{Source, own, along, reach-le_own, reach-within, source_of}
use Rattle.plan_constraints.proofs.Solve.{Within}
use Rattle.plan_constraints.proofs.Options.{some_is}

-- which of its three values a node has
pub data Place (i : ℕ) (v m : ℤ) (k : ℕ) : Type 0 where
  origin : k ≡ 0 → pinned i v m k ≡ pos 0 → Place i v m k
  here : k ≢ 0 → k ≡ i → pinned i v m k ≡ v → Place i v m k
  else : k ≢ 0 → k ≢ i → pinned i v m k ≡ m → Place i v m k

pub place_of : (i : ℕ) (v m : ℤ) (k : ℕ) → Place i v m k
unfolding pinned
place_of i v m k = elim (same k 0) [
  | inl e ↦ origin e (grind (arith, e))
  | inr n ↦ elim (same k i) [ inl e ↦ here n e (grind (arith, e, n)) | inr n2 ↦ else n n2 (grind (arith, n, n2)) ]
]
  where
    same : (x y : ℕ) → (x ≡ y) ⊎ (x ≢ y)
    same x y = grind arith

module _ (n : ℕ) (t : Table) (k : IsClosed n t) (cs : List Constraint) (c : Covers n t cs) (w : ℤ) (b : Within n t w) (i : ℕ) (li : i < n) (lo : 0 < n) (v m : ℤ) (m1 : w ≤ℤ m) (m2 : (v +ℤ w) ≤ℤ m) (m3 : (w -ℤ v) ≤ℤ m) (positive : pos 0 ≤ℤ w) (above : (u : ℤ) → t i 0 ≡ Some u → v ≤ℤ u) (below : (u : ℤ) → t 0 i ≡ Some u → pos 0 ≤ℤ (u +ℤ v)) where
  abbrev pub h : ℕ → ℤ
  h = pinned i v m

  entry_is : (x y : ℕ) (d : ℤ) → t x x ≡ Some (pos 0) → y ≡ x → t x y ≡ Some d → d ≡ pos 0
  entry_is x y d z e f = some_is (sym f ∙ ap (t x) e ∙ z)

  -- at node 0 only 0 is within the bounds
  nil : i ≡ 0 → v ≡ pos 0
  nil e =
      let x : v ≤ℤ pos 0 = above (pos 0) (ap (λ z. t z 0) e ∙ k.self 0 lo) in
      let y : pos 0 ≤ℤ (pos 0 +ℤ v) = below (pos 0) (ap (t 0) e ∙ k.self 0 lo) in
      omega (arith, ints, x, y)

  origin_least : (z : ℤ) → Source t h n 0 z → pos 0 ≤ℤ z
  origin_least z (own e) = from (place_of i v m 0)
    where
      from : Place i v m 0 → pos 0 ≤ℤ z
      from (origin p f) = omega (arith, ints)
      from (here q p f) = absurd (q refl)
      from (else p q f) = absurd (p refl)
  origin_least z (along x d lx e f) = from (place_of i v m x)
    where
      from : Place i v m x → pos 0 ≤ℤ z
      from (origin p g) = let r : d ≡ pos 0 = entry_is 0 x d (k.self 0 lo) p e in omega (arith, ints)
      from (here q p g) = let r : pos 0 ≤ℤ (d +ℤ v) = below d (ap (t 0) (sym p) ∙ e) in omega (arith, ints)
      from (else p q g) = let r : neg_ℤ w ≤ℤ d = b.low 0 x lo lx d e in omega (arith, ints, m1)

  pub reach-origin : reach t h n 0 ≡ pos 0
  reach-origin =
      let a : reach t h n 0 ≤ℤ h 0 = reach-le_own t h n 0 in
      let z : pos 0 ≤ℤ reach t h n 0 = origin_least (reach t h n 0) (source_of t h n 0) in
      from a z (place_of i v m 0)
    where
      from : reach t h n 0 ≤ℤ h 0 → pos 0 ≤ℤ reach t h n 0 → Place i v m 0 → reach t h n 0 ≡ pos 0
      from a z (origin p f) = omega (arith, ints)
      from a z (here q p f) = absurd (q refl)
      from a z (else p q f) = absurd (p refl)

  here_least : (z : ℤ) → Source t h n i z → v ≤ℤ z
  here_least z (own e) = from (place_of i v m i)
    where
      from : Place i v m i → v ≤ℤ z
      from (origin p f) = omega (arith, ints, nil p)
      from (here q p f) = omega (arith, ints)
      from (else p q f) = absurd (q refl)
  here_least z (along x d lx e f) = from (place_of i v m x)
    where
      from : Place i v m x → v ≤ℤ z
      from (origin p g) = let r : v ≤ℤ d = above d (ap (t i) (sym p) ∙ e) in omega (arith, ints)
      from (here q p g) = let r : d ≡ pos 0 = entry_is i x d (k.self i li) p e in omega (arith, ints)
      from (else p q g) = let r : neg_ℤ w ≤ℤ d = b.low i x li lx d e in omega (arith, ints, m2)

  pub reach-here : reach t h n i ≡ v
  reach-here =
      let a : reach t h n i ≤ℤ h i = reach-le_own t h n i in
      let z : v ≤ℤ reach t h n i = here_least (reach t h n i) (source_of t h n i) in
      from a z (place_of i v m i)
    where
      from : reach t h n i ≤ℤ h i → v ≤ℤ reach t h n i → Place i v m i → reach t h n i ≡ v
      from a z (origin p f) = omega (arith, ints, nil p)
      from a z (here q p f) = omega (arith, ints)
      from a z (else p q f) = absurd (q refl)

  -- the first values lie within m either way, also less w
  first_high : (x : ℕ) → h x ≤ℤ m
  first_high x = from (place_of i v m x)
    where
      from : Place i v m x → h x ≤ℤ m
      from (origin p g) = omega (arith, ints, m1, positive)
      from (here q p g) = omega (arith, ints, m2, positive)
      from (else p q g) = omega (arith, ints)

  first_low : (x : ℕ) → neg_ℤ m ≤ℤ (h x -ℤ w)
  first_low x = from (place_of i v m x)
    where
      from : Place i v m x → neg_ℤ m ≤ℤ (h x -ℤ w)
      from (origin p g) = omega (arith, ints, m1)
      from (here q p g) = omega (arith, ints, m3)
      from (else p q g) = omega (arith, ints, m1, positive)

  reach-high : (x : ℕ) → reach t h n x ≤ℤ m
  reach-high x =
      let a : reach t h n x ≤ℤ h x = reach-le_own t h n x in
      let f : h x ≤ℤ m = first_high x in
      omega (arith, ints, a, f)

  reach-low : (x : ℕ) → x < n → neg_ℤ m ≤ℤ reach t h n x
  reach-low x lx = from (reach t h n x) (source_of t h n x)
    where
      from : (z : ℤ) → Source t h n x z → neg_ℤ m ≤ℤ z
      from z (own e) = let f : neg_ℤ m ≤ℤ (h x -ℤ w) = first_low x in omega (arith, ints, positive)
      from z (along y d ly e g) =
          let f : neg_ℤ m ≤ℤ (h y -ℤ w) = first_low y in
          let r : neg_ℤ w ≤ℤ d = b.low x y lx ly d e in
          omega (arith, ints)

  -- integers that are those values at each node solve the constraints
  pub reached_solves : (x : ℕ → ℤ) → ((y : ℕ) → y < n → x y ≡ reach t h n y) → Solves x cs
  reached_solves x same = record {
    origin = same 0 lo ∙ reach-origin;
    each = λ d g.
        let e : AtMost t d.left d.right d.bound = c.tight d g in
        let a : reach t h n d.left ≤ℤ (e.bound +ℤ reach t h n d.right) = reach-within n t k h d.left d.right e.bound (c.left d g) (c.right d g) e.is in
        let f : e.bound ≤ℤ d.bound = e.small in
        let l : x d.left ≡ reach t h n d.left = same d.left (c.left d g) in
        let r : x d.right ≡ reach t h n d.right = same d.right (c.right d g) in
        omega (arith, ints);
  }

  pub reached_here : (x : ℕ → ℤ) → ((y : ℕ) → y < n → x y ≡ reach t h n y) → x i ≡ v
  reached_here x same = same i li ∙ reach-here

  pub reached_low : (x : ℕ → ℤ) → ((y : ℕ) → y < n → x y ≡ reach t h n y) → (y : ℕ) → y < n → neg_ℤ m ≤ℤ x y
  reached_low x same y l = let e : x y ≡ reach t h n y = same y l in let f : neg_ℤ m ≤ℤ reach t h n y = reach-low y l in omega (arith, ints)

  pub reached_high : (x : ℕ → ℤ) → ((y : ℕ) → y < n → x y ≡ reach t h n y) → (y : ℕ) → y < n → x y ≤ℤ m
  reached_high x same y l = let e : x y ≡ reach t h n y = same y l in let f : reach t h n y ≤ℤ m = reach-high y in omega (arith, ints)

-- ---- the list of the values

pub at_nodes-zero : (xs : List ℤ) → at_nodes xs 0 ≡ pos 0
at_nodes-zero [] = refl
at_nodes-zero (x ∷ xs) = refl

pub at_nodes-get : (xs : List ℤ) (k : ℕ) (d : ℤ) → k < length xs → at_nodes xs (suc k) ≡ get_or xs k d
at_nodes-get [] k d l = absurd (omega arith)
at_nodes-get (x ∷ xs) zero d l = refl
at_nodes-get (x ∷ xs) (suc k) d l = at_nodes-get xs k d (omega arith)

-- the node after the last of a list is the next element's
pub at_nodes-last : (xs : List ℤ) (x : ℤ) → at_nodes (xs ++ x ∷ []) (suc (length xs)) ≡ x
at_nodes-last [] x = refl
at_nodes-last (y ∷ xs) x = at_nodes-last xs x

pub at_nodes-front : (xs ys : List ℤ) (k : ℕ) → k < length xs → at_nodes (xs ++ ys) (suc k) ≡ at_nodes xs (suc k)
at_nodes-front [] ys k l = absurd (omega arith)
at_nodes-front (x ∷ xs) ys zero l = refl
at_nodes-front (x ∷ xs) ys (suc k) l = at_nodes-front xs ys k (omega arith)

-- one value more
pub values_more : (f : ℕ → ℤ) (xs ys : List ℤ) (z : ℤ) (k : ℕ) → length xs ≡ k → ys ≡ xs ++ z ∷ [] → z ≡ f (k + 1) → ((j : ℕ) → j < k → at_nodes xs (j + 1) ≡ f (j + 1)) → (j : ℕ) → j < k + 1 → at_nodes ys (j + 1) ≡ f (j + 1)
values_more f xs ys z k l e g h = below_more (λ j. at_nodes ys (j + 1) ≡ f (j + 1)) k
    (λ j lj. let s : j + 1 ≡ suc j = omega arith in
    let r : at_nodes (xs ++ z ∷ []) (suc j) ≡ at_nodes xs (suc j) = at_nodes-front xs (z ∷ []) j (omega (arith, l, lj)) in
    let o : at_nodes xs (suc j) ≡ f (suc j) = rw s at (h j lj) in
    rw (s, e) (r ∙ o))
    (let s : k + 1 ≡ suc (length xs) = omega (arith, l) in
    let o : z ≡ f (suc (length xs)) = rw s at g in
    rw (s, e) (at_nodes-last xs z ∙ o))
