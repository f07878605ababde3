-- A comparison tells no two values apart that are kept as the same.
use Rattle.std.proofs.Common.{◌≡◌, ℤ, pos, neg_ℤ, ◌+ℤ◌, ◌≤ℤ◌, ◌<ℤ◌, int_lt, ◌⊎◌, inl, inr, Bool, true, false, cond, Option, Some, None, refl, sym, ◌∙◌, subst, arith}
use Rattle.std.proofs.lemmas.Int.{ints, by_lt_z}
use Rattle.sem_query.specs.declared.atom.Op.{Op}
use Rattle.sem_query.proofs.Holding.{Compares}
use Rattle.sem_whole.specs.Ranges.{Range, range, IsUnder, IsOver, IsFrom, IsTo, IsIn, lowered, kept, moved, window, flipped, LowFits, HighFits, Fits}

-- what a value is kept as
data Raised (l x z : ℤ) : Type 0 where
  up : x <ℤ l → z ≡ l → Raised l x z
  as_is : l ≤ℤ x → z ≡ x → Raised l x z

data Lowered (h x z : ℤ) : Type 0 where
  down : h <ℤ x → z ≡ h → Lowered h x z
  as_it_is : x ≤ℤ h → z ≡ x → Lowered h x z

raised_to : (l x : ℤ) → Raised l x (cond (int_lt x l) l x)
raised_to l x = by (int_lt x l) refl
  where
    by : (b : Bool) → int_lt x l ≡ b → Raised l x (cond b l x)
    by true e = up (grind (arith, ints)) refl
    by false e = as_is (grind (arith, ints)) refl

lowered_to : (h x : ℤ) → Lowered h x (cond (int_lt h x) h x)
lowered_to h x = by (int_lt h x) refl
  where
    by : (b : Bool) → int_lt h x ≡ b → Lowered h x (cond b h x)
    by true e = down (grind (arith, ints)) refl
    by false e = as_it_is (grind (arith, ints)) refl

-- of two values that are kept as the same, both are at most the least end, or at least the greatest, or the ends leave at most one value
data Ends (r : Range) (x y : ℤ) : Type 0 where
  both_low : (l : ℤ) → r.lo ≡ Some l → y ≤ℤ l → x <ℤ l → Ends r x y
  both_high : (h : ℤ) → r.hi ≡ Some h → h ≤ℤ x → h <ℤ y → Ends r x y
  closed : (l h : ℤ) → r.lo ≡ Some l → r.hi ≡ Some h → h ≤ℤ l → x <ℤ l → h <ℤ y → Ends r x y

ends : (l h : Option ℤ) (x y : ℤ) → x <ℤ y → kept (range l h) x ≡ kept (range l h) y → Ends (range l h) x y
ends None None x y o e = absurd (omega (arith, ints, o, e))
ends (Some l) None x y o e = by _ _ (raised_to l x) (raised_to l y) e
  where
    by : (a b : ℤ) → Raised l x a → Raised l y b → a ≡ b → Ends (range (Some l) None) x y
    by a b (up f i) (up g j) k = both_low l refl (omega (arith, ints)) f
    by a b (up f i) (as_is g j) k = both_low l refl (omega (arith, ints)) f
    by a b (as_is f i) (up g j) k = absurd (omega (arith, ints))
    by a b (as_is f i) (as_is g j) k = absurd (omega (arith, ints))
ends None (Some h) x y o e = by _ _ (lowered_to h x) (lowered_to h y) e
  where
    by : (a b : ℤ) → Lowered h x a → Lowered h y b → a ≡ b → Ends (range None (Some h)) x y
    by a b (down f i) (down g j) k = both_high h refl (omega (arith, ints)) g
    by a b (down f i) (as_it_is g j) k = absurd (omega (arith, ints))
    by a b (as_it_is f i) (down g j) k = both_high h refl (omega (arith, ints)) g
    by a b (as_it_is f i) (as_it_is g j) k = absurd (omega (arith, ints))
ends (Some l) (Some h) x y o e = by _ _ _ _ (lowered_to h x) (lowered_to h y) (raised_to l (lowered (Some h) x)) (raised_to l (lowered (Some h) y)) e
  where
    low : y ≤ℤ l → x <ℤ l → Ends (range (Some l) (Some h)) x y
    low a b = both_low l refl a b

    high : h ≤ℤ x → h <ℤ y → Ends (range (Some l) (Some h)) x y
    high a b = both_high h refl a b

    none : h ≤ℤ l → x <ℤ l → h <ℤ y → Ends (range (Some l) (Some h)) x y
    none a b c = closed l h refl refl a b c

    from : (y ≤ℤ l) ⊎ (l <ℤ y) → (h ≤ℤ x) ⊎ (x <ℤ h) → (x <ℤ l) ⊎ (l ≤ℤ x) → (h <ℤ y) ⊎ (y ≤ℤ h) → ((h ≤ℤ l → ⊥) → l <ℤ y → x <ℤ h → ⊥) → Ends (range (Some l) (Some h)) x y
    from (inl a) b (inl c) d f = low a c
    from (inl a) b (inr c) d f = absurd (omega (arith, ints, o, a, c))
    from (inr a) (inl b) c (inl d) f = high b d
    from (inr a) (inl b) c (inr d) f = absurd (omega (arith, ints, o, b, d))
    from (inr a) (inr b) (inl c) (inl d) f = by_lt_z l h (λ m. absurd (f (λ n. omega (arith, ints, m, n)) a b)) (λ m. none m c d)
    from (inr a) (inr b) (inl c) (inr d) f = by_lt_z l h (λ m. absurd (f (λ n. omega (arith, ints, m, n)) a b)) (λ m. absurd (omega (arith, ints, m, a, d)))
    from (inr a) (inr b) (inr c) (inl d) f = by_lt_z l h (λ m. absurd (f (λ n. omega (arith, ints, m, n)) a b)) (λ m. absurd (omega (arith, ints, m, b, c)))
    from (inr a) (inr b) (inr c) (inr d) f = by_lt_z l h (λ m. absurd (f (λ n. omega (arith, ints, m, n)) a b)) (λ m. absurd (omega (arith, ints, m, b, c)))

    le_or : (a b : ℤ) → (a ≤ℤ b) ⊎ (b <ℤ a)
    le_or a b = by_lt_z b a (λ m. inr m) (λ m. inl m)

    lt_or : (a b : ℤ) → (a <ℤ b) ⊎ (b ≤ℤ a)
    lt_or a b = by_lt_z a b (λ m. inl m) (λ m. inr m)

    differ : (a b c d : ℤ) → Lowered h x a → Lowered h y b → Raised l a c → Raised l b d → c ≡ d → (h ≤ℤ l → ⊥) → l <ℤ y → x <ℤ h → ⊥
    differ a b c d (down f i) q r s k n m p = omega (arith, ints, f, p)
    differ a b c d (as_it_is f i) (down g j) (up r t) (up s u) k n m p = n (omega (arith, ints))
    differ a b c d (as_it_is f i) (down g j) (up r t) (as_is s u) k n m p = n (omega (arith, ints))
    differ a b c d (as_it_is f i) (down g j) (as_is r t) (up s u) k n m p = n (omega (arith, ints))
    differ a b c d (as_it_is f i) (down g j) (as_is r t) (as_is s u) k n m p = omega (arith, ints)
    differ a b c d (as_it_is f i) (as_it_is g j) (up r t) (up s u) k n m p = omega (arith, ints)
    differ a b c d (as_it_is f i) (as_it_is g j) (up r t) (as_is s u) k n m p = omega (arith, ints)
    differ a b c d (as_it_is f i) (as_it_is g j) (as_is r t) (up s u) k n m p = omega (arith, ints)
    differ a b c d (as_it_is f i) (as_it_is g j) (as_is r t) (as_is s u) k n m p = omega (arith, ints)

    by : (a b c d : ℤ) → Lowered h x a → Lowered h y b → Raised l a c → Raised l b d → c ≡ d → Ends (range (Some l) (Some h)) x y
    by a b c d p q r s k = from (le_or y l) (le_or h x) (lt_or x l) (lt_or h y) (differ a b c d p q r s k)

-- below what is under an end, moved
under_moved : (k by y : ℤ) (o : Option ℤ) → IsFrom o y → IsUnder k (moved by o) → k ≤ℤ (y +ℤ by)
under_moved k by y None f u = absurd u
under_moved k by y (Some l) f u = omega (arith, ints, f, u)

under_end : (k y : ℤ) (o : Option ℤ) → IsFrom o y → IsUnder k o → k ≤ℤ y
under_end k y None f u = absurd u
under_end k y (Some l) f u = omega (arith, ints, f, u)

over_moved : (k by y : ℤ) (o : Option ℤ) → IsTo o y → IsOver k (moved by o) → (y +ℤ by) ≤ℤ k
over_moved k by y None f u = absurd u
over_moved k by y (Some l) f u = omega (arith, ints, f, u)

over_end : (k y : ℤ) (o : Option ℤ) → IsTo o y → IsOver k o → y ≤ℤ k
over_end k y None f u = absurd u
over_end k y (Some l) f u = omega (arith, ints, f, u)

-- a cut at the least end lies in the window
low_at : (r own w : Range) (x l : ℤ) → Fits r own w → IsIn own x → r.lo ≡ Some l → x <ℤ l → IsUnder l w.lo
low_at r own w x l f i e o = elim (subst (λ k. LowFits k own.lo w.lo) e f.low) [ inl u ↦ (let k = under_end l x own.lo i.0 u in absurd (omega (arith, ints, k, o))) | inr u ↦ u ]

high_at : (r own w : Range) (x h : ℤ) → Fits r own w → IsIn own x → r.hi ≡ Some h → h <ℤ x → IsOver h w.hi
high_at r own w x h f i e o = elim (subst (λ k. HighFits k own.hi w.hi) e f.high) [ inl u ↦ (let k = over_end h x own.hi i.1 u in absurd (omega (arith, ints, k, o))) | inr u ↦ u ]

-- two values of the own range that are kept as the same: the same, or both at most a, or both at least b
data Alike (a b x y : ℤ) : Type 0 where
  equal : x ≡ y → Alike a b x y
  low : x ≤ℤ a → y ≤ℤ a → Alike a b x y
  high : b ≤ℤ x → b ≤ℤ y → Alike a b x y

module _ (r own w : Range) (f : Fits r own w) (a b : ℤ) (o : a <ℤ b) (under : (k : ℤ) → IsUnder k w.lo → k ≤ℤ a) (over : (k : ℤ) → IsOver k w.hi → b ≤ℤ k) where
  from_ends : (x y : ℤ) → x <ℤ y → IsIn own x → IsIn own y → Ends r x y → Alike a b x y
  from_ends x y m i j (both_low l e p n) = let u = under l (low_at r own w x l f i e n) in low (omega (arith, ints, u, n)) (omega (arith, ints, u, p))
  from_ends x y m i j (both_high h e p n) = let u = over h (high_at r own w y h f j e n) in high (omega (arith, ints, u, p)) (omega (arith, ints, u, n))
  from_ends x y m i j (closed l h e g p n s) =
      let u = under l (low_at r own w x l f i e n) in
      let v = over h (high_at r own w y h f j g s) in
      absurd (omega (arith, ints, u, v, p, o))

  turned : (x y : ℤ) → Alike a b x y → Alike a b y x
  turned x y (equal e) = equal (sym e)
  turned x y (low i j) = low j i
  turned x y (high i j) = high j i

  alike : (x y : ℤ) → IsIn own x → IsIn own y → kept r x ≡ kept r y → Alike a b x y
  alike x y i j e =
      by_lt_z x y (λ m. from_ends x y m i j (ends r.lo r.hi x y m e))
      (λ m. by_lt_z y x (λ n. turned y x (from_ends y x n j i (ends r.lo r.hi y x n (sym e)))) (λ n. equal (omega (arith, ints, m, n))))

module _ (y x z : ℤ) where
  lt_alike : Alike (y +ℤ neg_ℤ (pos 1)) y x z → x <ℤ y → z <ℤ y
  lt_alike (equal e) h = omega (arith, ints, e, h)
  lt_alike (low i j) h = omega (arith, ints, j)
  lt_alike (high i j) h = absurd (omega (arith, ints, i, h))

  ge_alike : Alike (y +ℤ neg_ℤ (pos 1)) y x z → y ≤ℤ x → y ≤ℤ z
  ge_alike (equal e) h = omega (arith, ints, e, h)
  ge_alike (low i j) h = absurd (omega (arith, ints, i, h))
  ge_alike (high i j) h = j

  le_alike : Alike y (y +ℤ pos 1) x z → x ≤ℤ y → z ≤ℤ y
  le_alike (equal e) h = omega (arith, ints, e, h)
  le_alike (low i j) h = j
  le_alike (high i j) h = absurd (omega (arith, ints, i, h))

  gt_alike : Alike y (y +ℤ pos 1) x z → y <ℤ x → y <ℤ z
  gt_alike (equal e) h = omega (arith, ints, e, h)
  gt_alike (low i j) h = absurd (omega (arith, ints, i, h))
  gt_alike (high i j) h = omega (arith, ints, j)

  ne_alike : Alike (y +ℤ neg_ℤ (pos 1)) (y +ℤ pos 1) x z → (x ≡ y → ⊥) → z ≡ y → ⊥
  ne_alike (equal e) h k = h (e ∙ k)
  ne_alike (low i j) h k = omega (arith, ints, j, k)
  ne_alike (high i j) h k = omega (arith, ints, j, k)

  eq_alike : Alike (x +ℤ neg_ℤ (pos 1)) (x +ℤ pos 1) x z → x ≡ y → z ≡ y
  eq_alike (equal e) h = sym e ∙ h
  eq_alike (low i j) h = absurd (omega (arith, ints, i))
  eq_alike (high i j) h = absurd (omega (arith, ints, i))

-- the left side may be another value that is kept as the same
pub left_over : (o : Op) (r own other : Range) (x z y : ℤ) → Fits r own (window o other) → IsIn own x → IsIn own z → IsIn other y → kept r x ≡ kept r z
    → Compares o x y → Compares o z y
left_over Op.Lt r own other x z y f i j k e = lt_alike y x z (alike r own (window Op.Lt other) f (y +ℤ neg_ℤ (pos 1)) y (omega (arith, ints)) (λ m u. under_moved m (neg_ℤ (pos 1)) y other.lo k.0 u) (λ m u. over_end m y other.hi k.1 u) x z i j e)
left_over Op.Le r own other x z y f i j k e = le_alike y x z (alike r own (window Op.Le other) f y (y +ℤ pos 1) (omega (arith, ints)) (λ m u. under_end m y other.lo k.0 u) (λ m u. over_moved m (pos 1) y other.hi k.1 u) x z i j e)
left_over Op.Gt r own other x z y f i j k e = gt_alike y x z (alike r own (window Op.Gt other) f y (y +ℤ pos 1) (omega (arith, ints)) (λ m u. under_end m y other.lo k.0 u) (λ m u. over_moved m (pos 1) y other.hi k.1 u) x z i j e)
left_over Op.Ge r own other x z y f i j k e = ge_alike y x z (alike r own (window Op.Ge other) f (y +ℤ neg_ℤ (pos 1)) y (omega (arith, ints)) (λ m u. under_moved m (neg_ℤ (pos 1)) y other.lo k.0 u) (λ m u. over_end m y other.hi k.1 u) x z i j e)
left_over Op.Ne r own other x z y f i j k e = ne_alike y x z (alike r own (window Op.Ne other) f (y +ℤ neg_ℤ (pos 1)) (y +ℤ pos 1) (omega (arith, ints)) (λ m u. under_moved m (neg_ℤ (pos 1)) y other.lo k.0 u) (λ m u. over_moved m (pos 1) y other.hi k.1 u) x z i j e)
left_over Op.Eq r own other x z y f i j k e = eq_alike y x z (alike r own (window Op.Eq other) f (x +ℤ neg_ℤ (pos 1)) (x +ℤ pos 1) (omega (arith, ints)) (λ m u. absurd u) (λ m u. absurd u) x z i j e)

-- the sides of a comparison, read from the right
pub flips : (o : Op) (x y : ℤ) → Compares o x y → Compares (flipped o) y x
flips Op.Lt x y h = h
flips Op.Le x y h = h
flips Op.Gt x y h = h
flips Op.Ge x y h = h
flips Op.Ne x y h = λ e. h (sym e)
flips Op.Eq x y h = sym h

pub flips_back : (o : Op) (x y : ℤ) → Compares (flipped o) y x → Compares o x y
flips_back Op.Lt x y h = h
flips_back Op.Le x y h = h
flips_back Op.Gt x y h = h
flips_back Op.Ge x y h = h
flips_back Op.Ne x y h = λ e. h (sym e)
flips_back Op.Eq x y h = sym h

-- so may the right side
pub right_over : (o : Op) (r own other : Range) (x y z : ℤ) → Fits r own (window (flipped o) other) → IsIn own y → IsIn own z → IsIn other x → kept r y ≡ kept r z
    → Compares o x y → Compares o x z
right_over o r own other x y z f i j k e h = flips_back o x z (left_over (flipped o) r own other y z x f i j k e (flips o x y h))
