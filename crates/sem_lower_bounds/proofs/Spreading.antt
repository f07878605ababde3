-- Assignments of a part in which an unbounded column has different values.
use Rattle.std.proofs.Common.{◌≡◌, ◌≢◌, ℕ, inl, inr, List, cond, true, false, sym, ◌∙◌, arith, ℤ, pos, ◌+ℤ◌, ◌-ℤ◌, ◌<ℤ◌, ◌≤ℤ◌, Contains, nat_abs, int_lt, ◌≤◌, ◌+◌, Bool, false}
use Rattle.std.proofs.lemmas.Int.{ints}
use Rattle.sem_query.proofs.Has.{Contains-from_has}
use Rattle.sem_query.proofs.Shift.{raised, raised-rises, raised-same, raised-above, lowered, lowered-rises, lowered-same, lowered-below, moved, InPart-moved}
use Rattle.sem_query.proofs.Bounded.{enclosed, too_high, too_low, standing, bounded_between}
use Rattle.sem_lower_bounds.proofs.Changing.{changed, changed-there, still_inside, named_or_free}
use Rattle.sem_lower_bounds.proofs.Plainly.{over-ends}
use Rattle.sem_lower_bounds.specs.Plain.{HasNoDomains}
use Rattle.sem_query.specs.declared.atom.Attr.{Attr}
use Rattle.sem_query.specs.declared.part.Sign.{Sign}
use Rattle.sem_query.specs.Query.{QueryValue, attrs_of, attr_eq}
use Rattle.sem_query.specs.Assignment.{Assignment}
use Rattle.sem_query.specs.Parts.{InPart, IsPart}
use Rattle.sem_query.specs.Order.{IsBounded}
use Rattle.sem_query.specs.Laws.{ends_of}

pub raised_size : (c z : ℤ) (t : ℕ) → nat_abs (raised c t z) ≤ nat_abs z + t
unfolding raised
raised_size c z t = by (int_lt c z)
  where
    by : (b : Bool) → nat_abs (cond b (z +ℤ pos t) z) ≤ nat_abs z + t
    by true = omega (arith, ints)
    by false = omega (arith, ints)

pub lowered_size : (c z : ℤ) (t : ℕ) → nat_abs (lowered c t z) ≤ nat_abs z + t
unfolding lowered
lowered_size c z t = by (int_lt z c)
  where
    by : (b : Bool) → nat_abs (cond b (z -ℤ pos t) z) ≤ nat_abs z + t
    by true = omega (arith, ints)
    by false = omega (arith, ints)

changed_size : (v : Assignment) (a b : Attr) (i : ℕ) → nat_abs (changed v a (pos i) b) ≤ nat_abs (v b) + i
unfolding changed
changed_size v a b i = by (attr_eq a b)
  where
    by : (c : Bool) → nat_abs (cond c (pos i) (v b)) ≤ nat_abs (v b) + i
    by true = omega (arith, ints)
    by false = omega (arith, ints)

-- an assignment with all values above a bound raised by a number
module _ (q : QueryValue) (s : List Sign) (u : Assignment) (inside : InPart q s u) (c : ℤ) (over : (k : ℤ) → Contains (ends_of q) k → k ≤ℤ c) (t : ℕ) where
  pub raised_by : Assignment
  raised_by = moved q s (raised c t) (raised-rises c t) (λ k i. raised-same c t k (over k i)) u inside

  pub raised-inside : InPart q s raised_by
  unfolding raised_by
  raised-inside = InPart-moved q s (raised c t) (raised-rises c t) (λ k i. raised-same c t k (over k i)) u inside

  pub raised-value : (a : Attr) → c <ℤ u a → raised_by a ≡ u a +ℤ pos t
  unfolding raised_by moved
  raised-value a h = raised-above c t (u a) h

  pub raised-still : (a : Attr) → u a ≤ℤ c → raised_by a ≡ u a
  unfolding raised_by moved
  raised-still a h = raised-same c t (u a) h

  pub raised-near : (a : Attr) → nat_abs (raised_by a) ≤ nat_abs (u a) + t
  unfolding raised_by moved
  raised-near a = raised_size c (u a) t

-- an assignment with all values below a bound lowered by a number
module _ (q : QueryValue) (s : List Sign) (u : Assignment) (inside : InPart q s u) (c : ℤ) (under : (k : ℤ) → Contains (ends_of q) k → c ≤ℤ k) (t : ℕ) where
  pub lowered_by : Assignment
  lowered_by = moved q s (lowered c t) (lowered-rises c t) (λ k i. lowered-same c t k (under k i)) u inside

  pub lowered-inside : InPart q s lowered_by
  unfolding lowered_by
  lowered-inside = InPart-moved q s (lowered c t) (lowered-rises c t) (λ k i. lowered-same c t k (under k i)) u inside

  pub lowered-value : (a : Attr) → u a <ℤ c → lowered_by a ≡ u a -ℤ pos t
  unfolding lowered_by moved
  lowered-value a h = lowered-below c t (u a) h

  pub lowered-still : (a : Attr) → c ≤ℤ u a → lowered_by a ≡ u a
  unfolding lowered_by moved
  lowered-still a h = lowered-same c t (u a) h

  pub lowered-near : (a : Attr) → nat_abs (lowered_by a) ≤ nat_abs (u a) + t
  unfolding lowered_by moved
  lowered-near a = lowered_size c (u a) t

-- assignments of the part, all with different values of the column
pub record Spread (q : QueryValue) (s : List Sign) (a : Attr) : Type 0 where
  pub w : ℕ → Assignment
  pub inside : (i : ℕ) → InPart q s (w i)
  pub apart : (i j : ℕ) → i ≢ j → w i a ≡ w j a → ⊥
  pub base : Assignment
  pub size : (i : ℕ) (b : Attr) → nat_abs (w i b) ≤ nat_abs (base b) + i

spread_named : (q : QueryValue) → HasNoDomains q → q.compact ≡ false → (s : List Sign) (p : IsPart q s) (a : Attr) → Contains (attrs_of q.atoms) a → ¬ IsBounded q s a → Spread q s a
spread_named q none whole s p a h n = elim (standing q s p a) [
  | enclosed low high i j l m ↦ absurd (n (bounded_between q s p a low high h i j l m))
  | too_high f ↦ up (over-ends q none (λ k. k <ℤ p.one a) (λ k h. f k h))
  | too_low f ↦ down (over-ends q none (λ k. p.one a <ℤ k) (λ k h. f k h))
]
  where
    above : (x c : ℤ) (i j : ℕ) → x +ℤ pos i ≡ x +ℤ pos j → i ≡ j
    above x c i j e = omega (arith, ints, e)

    below : (x c : ℤ) (i j : ℕ) → x -ℤ pos i ≡ x -ℤ pos j → i ≡ j
    below x c i j e = omega (arith, ints, e)

    up : ((k : ℤ) → Contains (ends_of q) k → k <ℤ p.one a) → Spread q s a
    up f =
        let c : ℤ = p.one a -ℤ pos 1 in
        let over : (k : ℤ) → Contains (ends_of q) k → k ≤ℤ c = λ k i. (let l : k <ℤ p.one a = f k i in omega (arith, ints, l)) in
        let l : c <ℤ p.one a = omega (arith, ints) in
        record {
          w = λ i. raised_by q s p.one p.inside c over i;
          inside = λ i. raised-inside q s p.one p.inside c over i;
          apart = λ i j d e. d (above (p.one a) c i j (sym (raised-value q s p.one p.inside c over i a l) ∙ e ∙ raised-value q s p.one p.inside c over j a l));
          base = p.one;
          size = λ i b. raised-near q s p.one p.inside c over i b;
        }

    down : ((k : ℤ) → Contains (ends_of q) k → p.one a <ℤ k) → Spread q s a
    down f =
        let c : ℤ = p.one a +ℤ pos 1 in
        let under : (k : ℤ) → Contains (ends_of q) k → c ≤ℤ k = λ k i. (let l : p.one a <ℤ k = f k i in omega (arith, ints, l)) in
        let l : p.one a <ℤ c = omega (arith, ints) in
        record {
          w = λ i. lowered_by q s p.one p.inside c under i;
          inside = λ i. lowered-inside q s p.one p.inside c under i;
          apart = λ i j d e. d (below (p.one a) c i j (sym (lowered-value q s p.one p.inside c under i a l) ∙ e ∙ lowered-value q s p.one p.inside c under j a l));
          base = p.one;
          size = λ i b. lowered-near q s p.one p.inside c under i b;
        }

-- an unbounded column has them, whether or not an atom names it
pub spread : (q : QueryValue) → HasNoDomains q → q.compact ≡ false → (s : List Sign) → IsPart q s → (a : Attr) → ¬ IsBounded q s a → Spread q s a
spread q none whole s p a n = elim (named_or_free (attrs_of q.atoms) a) [
  | inl h ↦ spread_named q none whole s p a (Contains-from_has (attrs_of q.atoms) a h) n
  | inr free ↦ record {
    w = λ i. changed p.one a (pos i);
    inside = λ i. still_inside q none s p.one p.inside a free (pos i);
    apart = λ i j d e. d (same i j (sym (changed-there p.one a (pos i)) ∙ e ∙ changed-there p.one a (pos j)));
    base = p.one;
    size = λ i b. changed_size p.one a b i;
  }
]
  where
    same : (i j : ℕ) → pos i ≡ pos j → i ≡ j
    same i j e = omega (arith, ints, e)
