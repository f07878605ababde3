-- Two equal values of different streams, beyond all constants, can be parted without leaving the part.
use Rattle.std.proofs.Common.{◌≡◌, ◌≢◌, ℕ, zero, suc, ◌≤◌, List, cond, Bool, true, false, refl, sym, ap, ◌∙◌, subst, arith, nat_eq, ℤ, pos, int_lt, ◌+ℤ◌, ◌-ℤ◌, ◌<ℤ◌, ◌≤ℤ◌, Contains}
use Rattle.std.proofs.lemmas.Int.{ints, by_lt_z}
use Rattle.sem_query.proofs.Shift.{Rises, moved, InPart-moved}
use Rattle.sem_query.proofs.Bounded.{unbounded_over_all, unbounded_under_all}
use Rattle.sem_query.proofs.Meets.{links_suffice}
use Rattle.sem_query.specs.declared.atom.Attr.{Attr}
use Rattle.sem_query.specs.declared.part.Sign.{Sign}
use Rattle.sem_query.specs.Query.{QueryValue}
use Rattle.sem_query.specs.Assignment.{Assignment}
use Rattle.sem_query.specs.Parts.{pairs, InPart}
use Rattle.sem_query.specs.Admission.{keeps_signs}
use Rattle.sem_query.proofs.Kept.{kept_if}
use Rattle.sem_lower_bounds.proofs.Plainly.{keeps-none}
use Rattle.sem_query.specs.Order.{IsBounded}
use Rattle.sem_query.specs.Laws.{ends_of}
use Rattle.sem_lower_bounds.specs.Plain.{IsPlain}
use Rattle.sem_query.specs.Links.{IsEquality}
use Rattle.sem_lower_bounds.proofs.OneLong.{mixed}
use Rattle.sem_lower_bounds.proofs.Mixing.{mixed-signs, mixed-here, mixed-other}

-- what is above k: its distance to k doubled, and e added
unfoldable pub doubled : ℤ → ℕ → ℤ → ℤ
doubled k e z = cond (int_lt k z) (((z +ℤ z) -ℤ k) +ℤ pos e) z

doubled-same : (k : ℤ) (e : ℕ) (z : ℤ) → z ≤ℤ k → doubled k e z ≡ z
unfolding doubled
doubled-same k e z h = grind (arith, ints)

doubled-above : (k : ℤ) (e : ℕ) (z : ℤ) → k <ℤ z → doubled k e z ≡ ((z +ℤ z) -ℤ k) +ℤ pos e
unfolding doubled
doubled-above k e z h = grind (arith, ints)

doubled-less : (k : ℤ) (e f : ℕ) (a b : ℤ) → e ≤ 1 → f ≤ 1 → a <ℤ b → doubled k e a <ℤ doubled k f b
doubled-less k e f a b s t l =
    by_lt_z k a
    (λ h. let x : doubled k e a ≡ ((a +ℤ a) -ℤ k) +ℤ pos e = doubled-above k e a h in
    let y : doubled k f b ≡ ((b +ℤ b) -ℤ k) +ℤ pos f = doubled-above k f b (omega (arith, ints, h, l)) in
    omega (arith, ints, x, y, l, s, t))
    (λ h. let x : doubled k e a ≡ a = doubled-same k e a h in
    by_lt_z k b
    (λ g. let y : doubled k f b ≡ ((b +ℤ b) -ℤ k) +ℤ pos f = doubled-above k f b g in omega (arith, ints, x, y, h, g))
    (λ g. let y : doubled k f b ≡ b = doubled-same k f b g in omega (arith, ints, x, y, l)))

doubled-rises : (k : ℤ) (e : ℕ) → e ≤ 1 → Rises (doubled k e)
doubled-rises k e s = record { rises = λ a b h. doubled-less k e e a b s s h }

-- the same below k
unfoldable pub sunk : ℤ → ℕ → ℤ → ℤ
sunk k e z = cond (int_lt z k) (((z +ℤ z) -ℤ k) +ℤ pos e) z

sunk-same : (k : ℤ) (e : ℕ) (z : ℤ) → k ≤ℤ z → sunk k e z ≡ z
unfolding sunk
sunk-same k e z h = grind (arith, ints)

sunk-below : (k : ℤ) (e : ℕ) (z : ℤ) → z <ℤ k → sunk k e z ≡ ((z +ℤ z) -ℤ k) +ℤ pos e
unfolding sunk
sunk-below k e z h = grind (arith, ints)

sunk-less : (k : ℤ) (e f : ℕ) (a b : ℤ) → e ≤ 1 → f ≤ 1 → a <ℤ b → sunk k e a <ℤ sunk k f b
sunk-less k e f a b s t l =
    by_lt_z b k
    (λ h. let y : sunk k f b ≡ ((b +ℤ b) -ℤ k) +ℤ pos f = sunk-below k f b h in
    let x : sunk k e a ≡ ((a +ℤ a) -ℤ k) +ℤ pos e = sunk-below k e a (omega (arith, ints, h, l)) in
    omega (arith, ints, x, y, l, s, t))
    (λ h. let y : sunk k f b ≡ b = sunk-same k f b h in
    by_lt_z a k
    (λ g. let x : sunk k e a ≡ ((a +ℤ a) -ℤ k) +ℤ pos e = sunk-below k e a g in omega (arith, ints, x, y, h, g, s))
    (λ g. let x : sunk k e a ≡ a = sunk-same k e a g in omega (arith, ints, x, y, l)))

sunk-rises : (k : ℤ) (e : ℕ) → e ≤ 1 → Rises (sunk k e)
sunk-rises k e s = record { rises = λ a b h. sunk-less k e e a b s s h }

-- an assignment of the part in which y is below x
pub record Parted (q : QueryValue) (s : List Sign) (x y : Attr) : Type 0 where
  pub u : Assignment
  pub inside : InPart q s u
  pub less : u y <ℤ u x

-- f 1 moves the values of one place, f 0 those of all others
module _ (q : QueryValue) (plain : IsPlain q) (s : List Sign) (v : Assignment) (i : InPart q s v) (f : ℕ → ℤ → ℤ)
    (rises : (e : ℕ) → e ≤ 1 → Rises (f e)) (keep : (e : ℕ) (k : ℤ) → Contains (ends_of q) k → f e k ≡ k)
    (less : (e g : ℕ) (a b : ℤ) → e ≤ 1 → g ≤ 1 → a <ℤ b → f e a <ℤ f g b)
    (equal : (a b : Attr) → IsEquality q s a b → f 0 (v a) ≡ f 1 (v a)) (place : ℕ) where
  by_one : (e : ℕ) → e ≤ 1 → Assignment
  by_one e l = moved q s (f e) (rises e l) (keep e) v i

  in_one : (e : ℕ) (l : e ≤ 1) → InPart q s (by_one e l)
  unfolding by_one
  in_one e l = InPart-moved q s (f e) (rises e l) (keep e) v i

  at_one : (e : ℕ) (l : e ≤ 1) (a : Attr) → by_one e l a ≡ f e (v a)
  unfolding by_one moved
  at_one e l a = refl

  zero_small : 0 ≤ 1
  zero_small = omega arith

  one_small : 1 ≤ 1
  one_small = omega arith

  abbrev both_moved : Assignment
  both_moved = mixed place (by_one 1 one_small) (by_one 0 zero_small)

  record Value (a : Attr) : Type 0 where
    e : ℕ
    small : e ≤ 1
    is : both_moved a ≡ f e (v a)

  value_here : (a : Attr) → a.stream ≡ place → both_moved a ≡ f 1 (v a)
  value_here a e = mixed-here place (by_one 1 one_small) (by_one 0 zero_small) a e ∙ at_one 1 one_small a

  value_other : (a : Attr) → a.stream ≢ place → both_moved a ≡ f 0 (v a)
  value_other a e = mixed-other place (by_one 1 one_small) (by_one 0 zero_small) a e ∙ at_one 0 zero_small a

  value_of : (a : Attr) → Value a
  value_of a = by (nat_eq a.stream place) refl
    where
      by : (b : Bool) → nat_eq a.stream place ≡ b → Value a
      by true h = record { e = 1; small = one_small; is = value_here a (grind (arith, h)) }
      by false h = record { e = 0; small = zero_small; is = value_other a (grind (arith, h)) }

  same_for : (e g : ℕ) (z : ℤ) → e ≤ 1 → g ≤ 1 → f 0 z ≡ f 1 z → f e z ≡ f g z
  same_for e g z s t h = by e g s t
    where
      by : (e g : ℕ) → e ≤ 1 → g ≤ 1 → f e z ≡ f g z
      by zero zero s t = refl
      by zero (suc zero) s t = h
      by (suc zero) zero s t = sym h
      by (suc zero) (suc zero) s t = refl
      by (suc (suc e)) g s t = absurd (omega (arith, s))
      by e (suc (suc g)) s t = absurd (omega (arith, t))

  signs-kept : (n : ℕ) → keeps_signs n both_moved (pairs q) s ≡ true
  signs-kept n =
      subst (λ (t : List Sign). keeps_signs n both_moved (pairs q) t ≡ true)
      (mixed-signs q plain s place (by_one 1 one_small) (by_one 0 zero_small) (in_one 1 one_small) (in_one 0 zero_small))
      (kept_if n both_moved both_moved (pairs q) (λ p k e. refl))

  moved-inside : InPart q s both_moved
  moved-inside = (links_suffice q s record { one = v; inside = i } both_moved (keeps-none q plain.domains both_moved)).1 record {
    signs = λ n. signs-kept n;
    equal = λ a b h. (let x : Value a = value_of a in let y : Value b = value_of b in
        x.is ∙ same_for x.e y.e (v a) x.small y.small (equal a b h) ∙ ap (f y.e) (h.equal.equal v i) ∙ sym y.is);
    less = λ a b h. (let x : Value a = value_of a in let y : Value b = value_of b in
        subst (λ z. z <ℤ both_moved b) (sym x.is) (subst (λ z. f x.e (v a) <ℤ z) (sym y.is) (less x.e y.e (v a) (v b) x.small y.small (h.less.less v i))));
  }

  pub parted : (x y : Attr) → x.stream ≡ place → y.stream ≢ place → f 0 (v y) <ℤ f 1 (v x) → Parted q s x y
  parted x y e n l = record {
    u = both_moved;
    inside = moved-inside;
    less = subst (λ z. z <ℤ both_moved x) (sym (value_other y n)) (subst (λ z. f 0 (v y) <ℤ z) (sym (value_here x e)) l);
  }

module _ (q : QueryValue) (plain : IsPlain q) (s : List Sign) (fine : (a b : Attr) → IsEquality q s a b → ¬ IsBounded q s a → ⊥)
    (v : Assignment) (i : InPart q s v) (x y : Attr) (n : y.stream ≢ x.stream) (same : v y ≡ v x) where
  abbrev just_under : ℤ
  just_under = v x -ℤ pos 1

  abbrev just_over : ℤ
  just_over = v x +ℤ pos 1

  pub part-up : ((k : ℤ) → Contains (ends_of q) k → k <ℤ v x) → Parted q s x y
  part-up over =
      parted q plain s v i (doubled just_under) (λ e l. doubled-rises just_under e l) (λ e c h. doubled-same just_under e c (let l : c <ℤ v x = over c h in omega (arith, ints, l)))
      (λ e g a b s t l. doubled-less just_under e g a b s t l) equal x.stream x y refl n
      (let a : doubled just_under 0 (v y) ≡ ((v y +ℤ v y) -ℤ just_under) +ℤ pos 0 = doubled-above just_under 0 (v y) (omega (arith, ints, same)) in
      let b : doubled just_under 1 (v x) ≡ ((v x +ℤ v x) -ℤ just_under) +ℤ pos 1 = doubled-above just_under 1 (v x) (omega (arith, ints)) in
      omega (arith, ints, a, b, same))
    where
      equal : (a b : Attr) → IsEquality q s a b → doubled just_under 0 (v a) ≡ doubled just_under 1 (v a)
      equal a b h =
          by_lt_z just_under (v a)
          (λ l. absurd (fine a b h (unbounded_over_all q s record { one = v; inside = i } a (λ c g. (let m : c <ℤ v x = over c g in omega (arith, ints, l, m))))))
          (λ l. doubled-same just_under 0 (v a) l ∙ sym (doubled-same just_under 1 (v a) l))

  pub part-down : ((k : ℤ) → Contains (ends_of q) k → v x <ℤ k) → Parted q s x y
  part-down under =
      parted q plain s v i (sunk just_over) (λ e l. sunk-rises just_over e l) (λ e c h. sunk-same just_over e c (let l : v x <ℤ c = under c h in omega (arith, ints, l)))
      (λ e g a b s t l. sunk-less just_over e g a b s t l) equal x.stream x y refl n
      (let a : sunk just_over 0 (v y) ≡ ((v y +ℤ v y) -ℤ just_over) +ℤ pos 0 = sunk-below just_over 0 (v y) (omega (arith, ints, same)) in
      let b : sunk just_over 1 (v x) ≡ ((v x +ℤ v x) -ℤ just_over) +ℤ pos 1 = sunk-below just_over 1 (v x) (omega (arith, ints)) in
      omega (arith, ints, a, b, same))
    where
      equal : (a b : Attr) → IsEquality q s a b → sunk just_over 0 (v a) ≡ sunk just_over 1 (v a)
      equal a b h =
          by_lt_z (v a) just_over
          (λ l. absurd (fine a b h (unbounded_under_all q s record { one = v; inside = i } a (λ c g. (let m : v x <ℤ c = under c g in omega (arith, ints, l, m))))))
          (λ l. sunk-same just_over 0 (v a) l ∙ sym (sunk-same just_over 1 (v a) l))
