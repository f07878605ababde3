-- A closed table with one more bound, which does not close a negative cycle, is closed.
use Rattle.std.proofs.Common.{◌≡◌, ℕ, ◌<◌, ℤ, pos, ◌+ℤ◌, ◌≤ℤ◌, int_lt, cond, refl, sym, ◌∙◌, ap, ap₂, arith, Option, Some, None, Bool, true, false}
use Rattle.std.proofs.lemmas.Int.{ints}
use Rattle.plan_constraints.specs.Table.{Table, AtMost, IsClosed}
use Rattle.plan_closure.specs.Tightened.{through, lesser, tightened, Agrees}
use Rattle.plan_constraints.proofs.Options.{some_is}

-- an entry of the new table is the old one, or a way over the new bound
pub data From (t : Table) (a b : ℕ) (c : ℤ) (i j : ℕ) (d : ℤ) : Type 0 where
  old : t i j ≡ Some d → From t a b c i j d
  over : (p q : ℤ) → t i a ≡ Some p → t b j ≡ Some q → d ≡ p +ℤ c +ℤ q → From t a b c i j d

pub from_of : (t : Table) (a b : ℕ) (c : ℤ) (i j : ℕ) (d : ℤ) → tightened t a b c i j ≡ Some d → From t a b c i j d
from_of t a b c i j d h = go (t i j) (t i a) (t b j) refl refl refl h
  where
    go : (o x y : Option ℤ) → t i j ≡ o → t i a ≡ x → t b j ≡ y → lesser o (through x c y) ≡ Some d → From t a b c i j d
    go None None y e f g k = cc
    go None (Some p) None e f g k = cc
    go None (Some p) (Some q) e f g k = over p q f g (sym (some_is k))
    go (Some z) None y e f g k = old (e ∙ k)
    go (Some z) (Some p) None e f g k = old (e ∙ k)
    go (Some z) (Some p) (Some q) e f g k = pick (int_lt (p +ℤ c +ℤ q) z) k
      where
        pick : (u : Bool) → cond u (Some (p +ℤ c +ℤ q)) (Some z) ≡ Some d → From t a b c i j d
        pick true k = over p q f g (sym (some_is k))
        pick false k = old (e ∙ k)

pub old-at_most : (t : Table) (a b : ℕ) (c : ℤ) (i j : ℕ) (d : ℤ) → t i j ≡ Some d → AtMost (tightened t a b c) i j d
old-at_most t a b c i j d h = go (through (t i a) c (t b j)) refl
  where
    go : (o : Option ℤ) → through (t i a) c (t b j) ≡ o → AtMost (tightened t a b c) i j d
    go None e = record { bound = d; is = ap₂ lesser h e; small = omega (arith, ints) }
    go (Some s) e = pick (int_lt s d) refl
      where
        pick : (u : Bool) → int_lt s d ≡ u → AtMost (tightened t a b c) i j d
        pick true k = record { bound = s; is = ap₂ lesser h e ∙ ap (λ u. cond u (Some s) (Some d)) k; small = omega (arith, ints) }
        pick false k = record { bound = d; is = ap₂ lesser h e ∙ ap (λ u. cond u (Some s) (Some d)) k; small = omega (arith, ints) }

pub over-at_most : (t : Table) (a b : ℕ) (c : ℤ) (i j : ℕ) (p q : ℤ) → t i a ≡ Some p → t b j ≡ Some q → AtMost (tightened t a b c) i j (p +ℤ c +ℤ q)
over-at_most t a b c i j p q f g = go (t i j) refl
  where
    s : ℤ
    s = p +ℤ c +ℤ q

    e : through (t i a) c (t b j) ≡ Some (p +ℤ c +ℤ q)
    e = ap₂ (λ x y. through x c y) f g

    go : (o : Option ℤ) → t i j ≡ o → AtMost (tightened t a b c) i j (p +ℤ c +ℤ q)
    go None h = record { bound = p +ℤ c +ℤ q; is = ap₂ lesser h e; small = omega (arith, ints) }
    go (Some d) h = pick (int_lt (p +ℤ c +ℤ q) d) refl
      where
        pick : (u : Bool) → int_lt (p +ℤ c +ℤ q) d ≡ u → AtMost (tightened t a b c) i j (p +ℤ c +ℤ q)
        pick true k = record { bound = p +ℤ c +ℤ q; is = ap₂ lesser h e ∙ ap (λ u. cond u (Some (p +ℤ c +ℤ q)) (Some d)) k; small = omega (arith, ints) }
        pick false k = record { bound = d; is = ap₂ lesser h e ∙ ap (λ u. cond u (Some (p +ℤ c +ℤ q)) (Some d)) k; small = omega (arith, ints) }

pub at_most-trans : (t : Table) (i j : ℕ) (u v : ℤ) → AtMost t i j u → u ≤ℤ v → AtMost t i j v
at_most-trans t i j u v h l = let s : h.bound ≤ℤ u = h.small in record { bound = h.bound; is = h.is; small = omega (arith, ints) }

pub at_most-weaker : (t : Table) (a b : ℕ) (c : ℤ) (i j : ℕ) (u : ℤ) → AtMost t i j u → AtMost (tightened t a b c) i j u
at_most-weaker t a b c i j u h = at_most-trans (tightened t a b c) i j h.bound u (old-at_most t a b c i j h.bound h.is) h.small

module _ (n : ℕ) (t : Table) (k : IsClosed n t) (a b : ℕ) (c : ℤ) (la : a < n) (lb : b < n) (g : Agrees t a b c) where
  -- a way from b to a is no shorter than -c
  round : (j : ℕ) (q p : ℤ) → j < n → t b j ≡ Some q → t j a ≡ Some p → pos 0 ≤ℤ (q +ℤ p +ℤ c)
  round j q p l e f =
      let r : AtMost t b a (q +ℤ p) = k.closed b j a lb l la q p e f in
      let x : pos 0 ≤ℤ (r.bound +ℤ c) = g.agrees r.bound r.is in
      let y : r.bound ≤ℤ (q +ℤ p) = r.small in
      omega (arith, ints)

  self-kept : (i : ℕ) → i < n → tightened t a b c i i ≡ Some (pos 0)
  self-kept i l = go (t i a) (t b i) refl refl
    where
      s : t i i ≡ Some (pos 0)
      s = k.self i l

      go : (x y : Option ℤ) → t i a ≡ x → t b i ≡ y → tightened t a b c i i ≡ Some (pos 0)
      go None y e f = ap₂ lesser s (ap₂ (λ x y. through x c y) e f)
      go (Some p) None e f = ap₂ lesser s (ap₂ (λ x y. through x c y) e f)
      go (Some p) (Some q) e f =
          let r : pos 0 ≤ℤ (q +ℤ p +ℤ c) = round i q p l f e in
          let no : int_lt (p +ℤ c +ℤ q) (pos 0) ≡ false = grind (arith, ints) in
          ap₂ lesser s (ap₂ (λ x y. through x c y) e f) ∙ ap (λ u. cond u (Some (p +ℤ c +ℤ q)) (Some (pos 0))) no

  closed-kept : (i j m : ℕ) → i < n → j < n → m < n → (p q : ℤ) → From t a b c i j p → From t a b c j m q → AtMost (tightened t a b c) i m (p +ℤ q)
  closed-kept i j m li lj lm p q (old e) (old f) = at_most-weaker t a b c i m (p +ℤ q) (k.closed i j m li lj lm p q e f)
  closed-kept i j m li lj lm p q (old e) (over x y f h w) =
      let r : AtMost t i a (p +ℤ x) = k.closed i j a li lj la p x e f in
      let z : r.bound ≤ℤ (p +ℤ x) = r.small in
      at_most-trans _ i m _ _ (over-at_most t a b c i m r.bound y r.is h) (omega (arith, ints))
  closed-kept i j m li lj lm p q (over x y e h w) (old f) =
      let r : AtMost t b m (y +ℤ q) = k.closed b j m lb lj lm y q h f in
      let z : r.bound ≤ℤ (y +ℤ q) = r.small in
      at_most-trans _ i m _ _ (over-at_most t a b c i m x r.bound e r.is) (omega (arith, ints))
  closed-kept i j m li lj lm p q (over x y e h w) (over x' y' e' h' w') =
      let z : pos 0 ≤ℤ (y +ℤ x' +ℤ c) = round j y x' lj h e' in
      at_most-trans _ i m _ _ (over-at_most t a b c i m x y' e h') (omega (arith, ints))

  pub tightened-closed : IsClosed n (tightened t a b c)
  tightened-closed = record {
    self = self-kept;
    closed = λ i j m li lj lm p q e f. closed-kept i j m li lj lm p q (from_of t a b c i j p e) (from_of t a b c j m q f);
  }
