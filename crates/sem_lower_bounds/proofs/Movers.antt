-- All values beyond the constants at one end moved away from them by a number.
use Rattle.std.proofs.Common.{◌≡◌, ℕ, ◌+◌, ◌<◌, ◌≤◌, ◌⊎◌, inl, inr, cond, not, Bool, true, false, sym, ◌∙◌, ap, arith, nat_abs, ℤ, pos, ◌+ℤ◌, ◌-ℤ◌, ◌<ℤ◌, ◌≤ℤ◌, int_lt, Contains}
use Rattle.std.proofs.lemmas.Int.{ints, by_lt_z}
use Rattle.sem_query.proofs.Local.{sign-lt, sign-gt}
use Rattle.sem_query.proofs.Shift.{Rises, Keeps, raised, raised-rises, raised-same, raised-above, lowered, lowered-rises, lowered-same, lowered-below}
use Rattle.sem_query.specs.Query.{QueryValue}
use Rattle.sem_query.specs.Laws.{ends_of}
use Rattle.sem_query.specs.Parts.{sign}
use Rattle.sem_lower_bounds.proofs.Spreading.{raised_size, lowered_size}

-- z moved up, or down
abbrev pub away : Bool → ℤ → ℕ → ℤ
away true z t = z +ℤ pos t
away false z t = z -ℤ pos t

-- what lies out at the one end moves, all else stays, and the order changes only between values that both lie out
pub record Mover (q : QueryValue) : Type 0 where
  pub up : Bool
  pub is_out : ℤ → Bool
  pub moves : ℕ → ℤ → ℤ
  pub rises : (t : ℕ) → Rises (moves t)
  pub keeps : (t : ℕ) → Keeps (moves t) (ends_of q)
  pub gone : (t : ℕ) (z : ℤ) → is_out z ≡ true → moves t z ≡ away up z t
  pub still : (t : ℕ) (z : ℤ) → is_out z ≡ false → moves t z ≡ z
  pub apart : (t r : ℕ) (a b : ℤ) → (is_out a ≡ false) ⊎ (is_out b ≡ false) → sign (moves t a) (moves r b) ≡ sign a b
  pub near : (t : ℕ) (z : ℤ) → nat_abs (moves t z) ≤ nat_abs z + t

out_above : (c z : ℤ) → int_lt c z ≡ true → c <ℤ z
out_above c z h = grind (arith, ints, h)

in_above : (c z : ℤ) → int_lt c z ≡ false → z ≤ℤ c
in_above c z h = grind (arith, ints, h)

both_signs : (a b c d : ℤ) → a ≡ c → b ≡ d → sign a b ≡ sign c d
both_signs a b c d e f = ap (λ (x : ℤ). sign x b) e ∙ ap (λ (y : ℤ). sign c y) f

module _ (c : ℤ) where
  below-raised : (t r : ℕ) (a b : ℤ) → a ≤ℤ c → sign (raised c t a) (raised c r b) ≡ sign a b
  below-raised t r a b h =
      let e : raised c t a ≡ a = raised-same c t a h in
      by_lt_z c b
      (λ l. let f : raised c r b ≡ b +ℤ pos r = raised-above c r b l in
      sign-lt (raised c t a) (raised c r b) (omega (arith, ints, e, f, h, l)) ∙ sym (sign-lt a b (omega (arith, ints, h, l))))
      (λ l. both_signs _ _ a b e (raised-same c r b l))

  raised-below : (t r : ℕ) (a b : ℤ) → b ≤ℤ c → sign (raised c t a) (raised c r b) ≡ sign a b
  raised-below t r a b h =
      let e : raised c r b ≡ b = raised-same c r b h in
      by_lt_z c a
      (λ l. let f : raised c t a ≡ a +ℤ pos t = raised-above c t a l in
      sign-gt (raised c t a) (raised c r b) (omega (arith, ints, e, f, h, l)) ∙ sym (sign-gt a b (omega (arith, ints, h, l))))
      (λ l. both_signs _ _ a b (raised-same c t a l) e)

  above-lowered : (t r : ℕ) (a b : ℤ) → c ≤ℤ a → sign (lowered c t a) (lowered c r b) ≡ sign a b
  above-lowered t r a b h =
      let e : lowered c t a ≡ a = lowered-same c t a h in
      by_lt_z b c
      (λ l. let f : lowered c r b ≡ b -ℤ pos r = lowered-below c r b l in
      sign-gt (lowered c t a) (lowered c r b) (omega (arith, ints, e, f, h, l)) ∙ sym (sign-gt a b (omega (arith, ints, h, l))))
      (λ l. both_signs _ _ a b e (lowered-same c r b l))

  lowered-above : (t r : ℕ) (a b : ℤ) → c ≤ℤ b → sign (lowered c t a) (lowered c r b) ≡ sign a b
  lowered-above t r a b h =
      let e : lowered c r b ≡ b = lowered-same c r b h in
      by_lt_z a c
      (λ l. let f : lowered c t a ≡ a -ℤ pos t = lowered-below c t a l in
      sign-lt (lowered c t a) (lowered c r b) (omega (arith, ints, e, f, h, l)) ∙ sym (sign-lt a b (omega (arith, ints, h, l))))
      (λ l. both_signs _ _ a b (lowered-same c t a l) e)

-- all above c moved up
pub mover-up : (q : QueryValue) (c : ℤ) → ((k : ℤ) → Contains (ends_of q) k → k ≤ℤ c) → Mover q
mover-up q c over = record {
  up = true;
  is_out = int_lt c;
  moves = raised c;
  rises = raised-rises c;
  keeps = λ t k i. raised-same c t k (over k i);
  gone = λ t z h. raised-above c t z (out_above c z h);
  still = λ t z h. raised-same c t z (in_above c z h);
  apart = λ t r a b o. elim o [
    | inl h ↦ below-raised c t r a b (in_above c a h)
    | inr h ↦ raised-below c t r a b (in_above c b h)
  ];
  near = λ t z. raised_size c z t;
}

pub out-up : (q : QueryValue) (c : ℤ) (over : (k : ℤ) → Contains (ends_of q) k → k ≤ℤ c) (z : ℤ) → c <ℤ z → (mover-up q c over).is_out z ≡ true
unfolding mover-up
out-up q c over z h = grind (arith, ints, h)

out_below : (c z : ℤ) → int_lt z c ≡ true → z <ℤ c
out_below c z h = grind (arith, ints, h)

in_below : (c z : ℤ) → int_lt z c ≡ false → c ≤ℤ z
in_below c z h = grind (arith, ints, h)

-- all below c moved down
pub mover-down : (q : QueryValue) (c : ℤ) → ((k : ℤ) → Contains (ends_of q) k → c ≤ℤ k) → Mover q
mover-down q c under = record {
  up = false;
  is_out = λ z. int_lt z c;
  moves = lowered c;
  rises = lowered-rises c;
  keeps = λ t k i. lowered-same c t k (under k i);
  gone = λ t z h. lowered-below c t z (out_below c z h);
  still = λ t z h. lowered-same c t z (in_below c z h);
  apart = λ t r a b o. elim o [
    | inl h ↦ above-lowered c t r a b (in_below c a h)
    | inr h ↦ lowered-above c t r a b (in_below c b h)
  ];
  near = λ t z. lowered_size c z t;
}

pub out-down : (q : QueryValue) (c : ℤ) (under : (k : ℤ) → Contains (ends_of q) k → c ≤ℤ k) (z : ℤ) → z <ℤ c → (mover-down q c under).is_out z ≡ true
unfolding mover-down
out-down q c under z h = grind (arith, ints, h)

-- whether moving a column farther out makes it greater: one at the place with p, one elsewhere with r
abbrev pub agrees : Bool → Bool → Bool
agrees true here = here
agrees false here = not here

-- of two values the one at the place, moved by p, and the other, moved by r
abbrev pub first_at : Bool → Bool → ℤ → ℕ → ℕ → ℤ
first_at up here x p r = away up x (cond here p r)

abbrev pub second_at : Bool → Bool → ℤ → ℕ → ℕ → ℤ
second_at up here y p r = away up y (cond here r p)

module _ (x y : ℤ) (p r d : ℕ) (close : nat_abs (x -ℤ y) < d) where
  -- where p is greater than r by more than they are apart
  pub over-if : (up here : Bool) → r + d ≤ p → agrees up here ≡ true → second_at up here y p r <ℤ first_at up here x p r
  over-if true true l e = omega (arith, ints, close, l)
  over-if true false l e = absurd cc
  over-if false true l e = absurd cc
  over-if false false l e = omega (arith, ints, close, l)

  pub under-if : (up here : Bool) → r + d ≤ p → agrees up here ≡ false → first_at up here x p r <ℤ second_at up here y p r
  under-if true true l e = absurd cc
  under-if true false l e = omega (arith, ints, close, l)
  under-if false true l e = omega (arith, ints, close, l)
  under-if false false l e = absurd cc

  -- and where r is
  pub over-back : (up here : Bool) → p + d ≤ r → agrees up here ≡ false → second_at up here y p r <ℤ first_at up here x p r
  over-back true true l e = absurd cc
  over-back true false l e = omega (arith, ints, close, l)
  over-back false true l e = omega (arith, ints, close, l)
  over-back false false l e = absurd cc

  pub under-back : (up here : Bool) → p + d ≤ r → agrees up here ≡ true → first_at up here x p r <ℤ second_at up here y p r
  under-back true true l e = omega (arith, ints, close, l)
  under-back true false l e = absurd cc
  under-back false true l e = absurd cc
  under-back false false l e = omega (arith, ints, close, l)

-- how far to move them so that they meet
pub record Meeting (up here : Bool) (x y : ℤ) : Type 0 where
  pub p : ℕ
  pub r : ℕ
  pub small_p : p ≤ nat_abs (x -ℤ y)
  pub small_r : r ≤ nat_abs (x -ℤ y)
  pub meet : (k : ℕ) → first_at up here x (k + p) (k + r) ≡ second_at up here y (k + p) (k + r)

pub meeting : (up here : Bool) (x y : ℤ) → Meeting up here x y
meeting true true x y = by_lt_z x y
    (λ h. record { p = nat_abs (x -ℤ y); r = 0; small_p = omega arith; small_r = omega arith; meet = λ k. omega (arith, ints, h) })
    (λ h. record { p = 0; r = nat_abs (x -ℤ y); small_p = omega arith; small_r = omega arith; meet = λ k. omega (arith, ints, h) })
meeting true false x y = by_lt_z x y
    (λ h. record { p = 0; r = nat_abs (x -ℤ y); small_p = omega arith; small_r = omega arith; meet = λ k. omega (arith, ints, h) })
    (λ h. record { p = nat_abs (x -ℤ y); r = 0; small_p = omega arith; small_r = omega arith; meet = λ k. omega (arith, ints, h) })
meeting false true x y = by_lt_z x y
    (λ h. record { p = 0; r = nat_abs (x -ℤ y); small_p = omega arith; small_r = omega arith; meet = λ k. omega (arith, ints, h) })
    (λ h. record { p = nat_abs (x -ℤ y); r = 0; small_p = omega arith; small_r = omega arith; meet = λ k. omega (arith, ints, h) })
meeting false false x y = by_lt_z x y
    (λ h. record { p = nat_abs (x -ℤ y); r = 0; small_p = omega arith; small_r = omega arith; meet = λ k. omega (arith, ints, h) })
    (λ h. record { p = 0; r = nat_abs (x -ℤ y); small_p = omega arith; small_r = omega arith; meet = λ k. omega (arith, ints, h) })
