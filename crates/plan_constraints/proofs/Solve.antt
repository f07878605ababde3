-- Integers at the nodes, from a closed table that covers the constraints.
use Rattle.std.proofs.Common.{◌≡◌, ◌≢◌, ℕ, suc, ◌<◌, ℤ, pos, neg_ℤ, ◌+ℤ◌, ◌-ℤ◌, ◌≤ℤ◌, ◌<ℤ◌, nat_abs, cond, ◌⊎◌, inl, inr, sym, ◌∙◌, ap, arith, Some, None, List, nat_eq}
use Rattle.std.proofs.lemmas.Int.{ints}
use Rattle.plan_constraints.specs.declared.constraint.Constraint.{Constraint}
use Rattle.plan_constraints.specs.Table.{Table, AtMost, IsClosed, Covers}
use Rattle.plan_constraints.specs.Solutions.{Solves, IsSatisfiable, HasNoUpper}
use Rattle.plan_constraints.specs.Reach.{reach}
use Rattle.plan_constraints.proofs.Closed.{Source, own, along, reach-le, reach-le_own, reach-within, source_of}
use Rattle.plan_constraints.proofs.Options.{some_is, none_is}

-- each bound lies within w either way
pub record Within (n : ℕ) (t : Table) (w : ℤ) : Type 0 where
  pub low : (i j : ℕ) → i < n → j < n → (d : ℤ) → t i j ≡ Some d → neg_ℤ w ≤ℤ d
  pub high : (i j : ℕ) → i < n → j < n → (d : ℤ) → t i j ≡ Some d → d ≤ℤ w

module _ (n : ℕ) (t : Table) (k : IsClosed n t) (cs : List Constraint) (v : Covers n t cs) where
  -- the values of the nodes, moved so that node 0 has 0
  unfoldable pub values : (ℕ → ℤ) → ℕ → ℤ
  values h i = reach t h n i -ℤ reach t h n 0

  pub values-solve : (h : ℕ → ℤ) → Solves (values h) cs
  unfolding values
  values-solve h = record {
    origin = omega (arith, ints);
    each = λ c m.
        let e : AtMost t c.left c.right c.bound = v.tight c m in
        let a : reach t h n c.left ≤ℤ (e.bound +ℤ reach t h n c.right) = reach-within n t k h c.left c.right e.bound (v.left c m) (v.right c m) e.is in
        let b : e.bound ≤ℤ c.bound = e.small in
        omega (arith, ints);
  }

  pub satisfiable : IsSatisfiable cs
  satisfiable = record { at = values (λ _. pos 0); solves = values-solve (λ _. pos 0) }

  -- 0 at j, and m elsewhere
  apart_from : ℕ → ℤ → ℕ → ℤ
  apart_from j m i = cond (nat_eq i j) (pos 0) m

  apart-at : (j : ℕ) (m : ℤ) → apart_from j m j ≡ pos 0
  unfolding apart_from
  apart-at j m = grind arith

  apart-else : (j : ℕ) (m : ℤ) (i : ℕ) → i ≢ j → apart_from j m i ≡ m
  unfolding apart_from
  apart-else j m i h = grind arith

  same_or : (i j : ℕ) → (i ≡ j) ⊎ (i ≢ j)
  same_or i j = grind arith

  module _ (w : ℤ) (b : Within n t w) (j : ℕ) (lj : j < n) where
    -- node j has 0, where m is large
    reach-at : (m : ℤ) → w ≤ℤ m → reach t (apart_from j m) n j ≡ pos 0
    reach-at m l =
        let a : reach t (apart_from j m) n j ≤ℤ apart_from j m j = reach-le_own t (apart_from j m) n j in
        let e : apart_from j m j ≡ pos 0 = apart-at j m in
        let f : pos 0 ≤ℤ reach t (apart_from j m) n j = least (reach t (apart_from j m) n j) (source_of t (apart_from j m) n j) in
        omega (arith, ints)
      where
        least : (z : ℤ) → Source t (apart_from j m) n j z → pos 0 ≤ℤ z
        least z (own f) = let e : apart_from j m j ≡ pos 0 = apart-at j m in omega (arith, ints)
        least z (along i d li e f) = elim (same_or i j) [
          | inl s ↦ let g : apart_from j m i ≡ pos 0 = ap (apart_from j m) s ∙ apart-at j m in
              let own_entry : t j j ≡ Some d = ap (t j) (sym s) ∙ e in
              let zero_entry : pos 0 ≡ d = some_is (sym (k.self j lj) ∙ own_entry) in
              omega (arith, ints)
          | inr s ↦ let g : apart_from j m i ≡ m = apart-else j m i s in
              let low : neg_ℤ w ≤ℤ d = b.low j i lj li d e in
              omega (arith, ints)
        ]

    -- a node with a bound u to j has u, where m is large
    reach-bound : (m : ℤ) → (w +ℤ w) ≤ℤ m → (i : ℕ) → i < n → i ≢ j → (u : ℤ) → t i j ≡ Some u → reach t (apart_from j m) n i ≡ u
    reach-bound m l i li ne u e =
        let a : reach t (apart_from j m) n i ≤ℤ (u +ℤ apart_from j m j) = reach-le t (apart_from j m) n i j u lj e in
        let g : apart_from j m j ≡ pos 0 = apart-at j m in
        let f : u ≤ℤ reach t (apart_from j m) n i = least (reach t (apart_from j m) n i) (source_of t (apart_from j m) n i) in
        omega (arith, ints)
      where
        top : u ≤ℤ w
        top = b.high i j li lj u e

        bottom : neg_ℤ w ≤ℤ u
        bottom = b.low i j li lj u e

        least : (z : ℤ) → Source t (apart_from j m) n i z → u ≤ℤ z
        least z (own f) = let e : apart_from j m i ≡ m = apart-else j m i ne in omega (arith, ints, top, bottom)
        least z (along x d lx f g) = elim (same_or x j) [
          | inl s ↦ let h : apart_from j m x ≡ pos 0 = ap (apart_from j m) s ∙ apart-at j m in
              let that : t i j ≡ Some d = ap (t i) (sym s) ∙ f in
              let same : u ≡ d = some_is (sym e ∙ that) in
              omega (arith, ints)
          | inr s ↦ let h : apart_from j m x ≡ m = apart-else j m x s in
              let low : neg_ℤ w ≤ℤ d = b.low i x li lx d f in
              omega (arith, ints, top, bottom)
        ]

    -- a node with no bound to j passes m - w
    reach-free : (m : ℤ) (i : ℕ) → i < n → i ≢ j → t i j ≡ None → pos 0 ≤ℤ w → (m -ℤ w) ≤ℤ reach t (apart_from j m) n i
    reach-free m i li ne e lw = least (reach t (apart_from j m) n i) (source_of t (apart_from j m) n i)
      where
        least : (z : ℤ) → Source t (apart_from j m) n i z → (m -ℤ w) ≤ℤ z
        least z (own f) = let e : apart_from j m i ≡ m = apart-else j m i ne in omega (arith, ints)
        least z (along x d lx f g) = elim (same_or x j) [
          | inl s ↦ let that : t i j ≡ Some d = ap (t i) (sym s) ∙ f in absurd (none_is (sym e ∙ that))
          | inr s ↦ let h : apart_from j m x ≡ m = apart-else j m x s in
              let low : neg_ℤ w ≤ℤ d = b.low i x li lx d f in
              omega (arith, ints)
        ]

    pub upper_reached : (i : ℕ) → i < n → (u : ℤ) → t i j ≡ Some u → (x : ℕ → ℤ) × Solves x cs × (x i ≡ u +ℤ x j)
    unfolding values
    upper_reached i li u e = elim (same_or i j) [
      | inl s ↦ let own_entry : t j j ≡ Some u = ap (λ z. t z j) (sym s) ∙ e in
          let zero_entry : pos 0 ≡ u = some_is (sym (k.self j lj) ∙ own_entry) in
          let h : ℕ → ℤ = λ _. pos 0 in
          let f : values h i ≡ values h j = ap (values h) s in
          (values h, values-solve h, (let r : values h i ≡ u +ℤ values h j = omega (arith, ints) in r))
      | inr ne ↦ let h : ℕ → ℤ = apart_from j (w +ℤ w) in
          let top : u ≤ℤ w = b.high i j li lj u e in
          let bottom : neg_ℤ w ≤ℤ u = b.low i j li lj u e in
          let f : reach t h n j ≡ pos 0 = reach-at (w +ℤ w) (omega (arith, ints)) in
          let g : reach t h n i ≡ u = reach-bound (w +ℤ w) (omega (arith, ints)) i li ne u e in
          (values h, values-solve h, (let r : values h i ≡ u +ℤ values h j = omega (arith, ints) in r))
    ]

    pub passes : (i : ℕ) → i < n → t i j ≡ None → pos 0 ≤ℤ w → HasNoUpper cs i j
    unfolding values
    passes i li e lw = record {
      passed = λ u. elim (same_or i j) [
        | inl s ↦ absurd (none_is (sym e ∙ ap (λ z. t z j) s ∙ k.self j lj))
        | inr ne ↦ let m : ℤ = w +ℤ w +ℤ pos (suc (nat_abs u)) in
            let h : ℕ → ℤ = apart_from j m in
            let f : reach t h n j ≡ pos 0 = reach-at m (omega (arith, ints)) in
            let g : (m -ℤ w) ≤ℤ reach t h n i = reach-free m i li ne e lw in
            (values h, values-solve h, (let r : (u +ℤ values h j) <ℤ values h i = omega (arith, ints) in r))
      ];
    }
