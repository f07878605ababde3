-- Each value stands in one range.
use Rattle.std.proofs.Common.{◌≡◌, ℕ, ◌+◌, ◌-◌, ◌*◌, ◌/◌, ◌<◌, ◌≤◌, Bool, true, false, cond, ◌||◌, ℤ, pos, ◌+ℤ◌, ◌-ℤ◌, ◌≤ℤ◌, int_lt, nat_abs, refl, sym, ap, subst, arith}
use Rattle.std.proofs.lemmas.Int.{ints}
use Rattle.adv_mends.specs.declared.mend.Ends.{Ends}
use Rattle.adv_key_ranges.specs.Cutting.{value_count, range_at}
use Rattle.adv_key_ranges.specs.Laws.{IsBetween, put_at, RangesAreFound}
use Rattle.adv_key_ranges.proofs.Cuts.{number-below, begins-below, begins-above}

not_below : (x y : ℤ) → x ≤ℤ y → int_lt y x ≡ false
not_below x y h = grind (arith, ints)

below_count : (ends : Ends) (z : ℤ) → IsBetween ends z → nat_abs (z -ℤ ends.lo) < value_count ends
below_count ends z h = grind (arith, ints, h.0, h.1)

in_range : (lo z : ℤ) (b c : ℕ) → lo ≤ℤ z → b ≤ nat_abs (z -ℤ lo) → nat_abs (z -ℤ lo) + 1 ≤ c → ((lo +ℤ pos b) ≤ℤ z) × (z ≤ℤ (lo +ℤ pos (c - 1)))
in_range lo z b c h l m = (grind (arith, ints), grind (arith, ints))

either_false : (a b : Bool) → a ≡ false → b ≡ false → (a || b) ≡ false
either_false a b h k = rw (h, k) refl

neither : (lo hi z : ℤ) → (int_lt z lo || int_lt hi z) ≡ false → (lo ≤ℤ z) × (z ≤ℤ hi)
neither lo hi z h = by (int_lt z lo) (int_lt hi z) refl refl h where
  by : (a b : Bool) → int_lt z lo ≡ a → int_lt hi z ≡ b → (a || b) ≡ false → (lo ≤ℤ z) × (z ≤ℤ hi)
  by true b f g e = absurd cc
  by false true f g e = absurd cc
  by false false f g e = (grind (arith, ints), grind (arith, ints))

pub ranges-are-found : RangesAreFound
unfolding range_at
ranges-are-found ends k is p l = record { some = some; inside = inside }
  where
    some : (z : ℤ) → put_at ends k z < k
    some z = by (int_lt z ends.lo || int_lt ends.hi z) refl where
      by : (b : Bool) → (int_lt z ends.lo || int_lt ends.hi z) ≡ b → cond b 0 (nat_abs (z -ℤ ends.lo) * k / value_count ends) < k
      by true e = p
      by false e = number-below (value_count ends) k (nat_abs (z -ℤ ends.lo)) p (below_count ends z (neither ends.lo ends.hi z e))

    inside : (z : ℤ) → IsBetween ends z → IsBetween (range_at ends k (put_at ends k z)) z
    inside z h =
        let x : ℕ = nat_abs (z -ℤ ends.lo) in
        let e : (int_lt z ends.lo || int_lt ends.hi z) ≡ false = either_false (int_lt z ends.lo) (int_lt ends.hi z) (not_below ends.lo z h.0) (not_below z ends.hi h.1) in
        let f : put_at ends k z ≡ x * k / value_count ends = ap (λ (b : Bool). cond b 0 (x * k / value_count ends)) e in
        let c = below_count ends z h in
        subst (λ (i : ℕ). IsBetween (range_at ends k i) z) (sym f)
        (in_range ends.lo z _ _ h.0 (begins-below (value_count ends) k x p c) (begins-above (value_count ends) k x p c))
