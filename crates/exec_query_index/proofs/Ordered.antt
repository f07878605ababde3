-- Buckets ascend with the integers.
use Rattle.std.proofs.Common.{◌≡◌, ℕ, ◌+◌, ◌/◌, ◌%◌, ◌^◌, ◌<◌, ◌≤◌, min, ◌&&◌, ◌||◌, not, cond, Bool, true, false, ℤ, pos, neg_ℤ, ◌-ℤ◌, ◌≤ℤ◌, ◌<ℤ◌, int_lt, nat_abs, refl, sym, subst, arith}
use Rattle.std.proofs.lemmas.Int.{ints}
use Rattle.std.proofs.lemmas.Nat.{le-div, pow_pos}
use Rattle.std.proofs.Math.Nat.{div-mul-le_self}
use Rattle.std.proofs.lemmas.Bool.Decides.{Decides-int_eq}
use Rattle.std.specs.Ordering.{int_eq}
use Rattle.exec_query_index.specs.declared.boxes.Interval.{Interval}
use Rattle.exec_query_index.specs.declared.column.Grid.{Grid}
use Rattle.exec_query_index.specs.Boxes.{holds}
use Rattle.exec_query_index.specs.Buckets.{bucket}

below : (x y : ℤ) → int_lt x y ≡ true → x <ℤ y
below x y e = grind (arith, ints)

not_below : (x y : ℤ) → int_lt x y ≡ false → y ≤ℤ x
not_below x y e = grind (arith, ints)

alike : (x y : ℤ) → int_eq x y ≡ true → x ≡ y
alike x y e = grind (arith, ints, Decides-int_eq x y)

-- how far an integer is from a less one
apart : (low v w : ℤ) → low ≤ℤ v → v ≤ℤ w → nat_abs (v -ℤ low) ≤ nat_abs (w -ℤ low)
apart low v w a b = omega (arith, ints, a, b)

-- quotients ascend
parted : (a b n : ℕ) → 0 < n → a ≤ b → a / n ≤ b / n
parted a b n some le = (let m = div-mul-le_self a n in le-div (a / n) b n some (omega (arith, m, le)))

pub power_positive : (n : ℕ) → 0 < 2 ^ n
power_positive n = pow_pos n

-- the bucket of a greater integer is not before
pub bucket_up : (grid : Grid) (v w : ℤ) → v ≤ℤ w → bucket grid v ≤ bucket grid w
bucket_up grid v w le = by (int_lt v grid.low) (int_lt w grid.low) refl refl
  where
    far : ℤ → ℕ
    far x = 1 + min 254 (nat_abs (x -ℤ grid.low) / 2 ^ (grid.shift % 64))

    by : (b c : Bool) → int_lt v grid.low ≡ b → int_lt w grid.low ≡ c → cond b 0 (far v) ≤ cond c 0 (far w)
    by true c e f = omega arith
    by false true e f = absurd (let p = not_below v grid.low e in let q = below w grid.low f in omega (arith, ints, p, q, le))
    by false false e f =
        (let p = not_below v grid.low e in
        let a = parted (nat_abs (v -ℤ grid.low)) (nat_abs (w -ℤ grid.low)) (2 ^ (grid.shift % 64)) (power_positive (grid.shift % 64)) (apart grid.low v w p le) in
        omega (arith, a))

left_of : (a b : Bool) → (a && b) ≡ true → a ≡ true
left_of true b h = refl
left_of false b h = absurd cc

right_of : (a b : Bool) → (a && b) ≡ true → b ≡ true
right_of true b h = h
right_of false b h = absurd cc

-- a machine integer that an interval holds is not below its least
pub least_below : (i : Interval) (x : ℤ) → neg_ℤ (pos 9223372036854775808) ≤ℤ x → holds i x ≡ true → i.least ≤ℤ x
least_below i x fits h = by (int_eq i.least (neg_ℤ (pos 9223372036854775808))) (int_lt x i.least) refl refl (left_of _ _ h)
  where
    by : (b c : Bool) → int_eq i.least (neg_ℤ (pos 9223372036854775808)) ≡ b → int_lt x i.least ≡ c → (b || not c) ≡ true → i.least ≤ℤ x
    by true c e f t = (let s = alike i.least (neg_ℤ (pos 9223372036854775808)) e in subst (λ (z : ℤ). z ≤ℤ x) (sym s) fits)
    by false true e f t = absurd cc
    by false false e f t = not_below x i.least f

-- nor above its greatest
pub greatest_above : (i : Interval) (x : ℤ) → x ≤ℤ pos 9223372036854775807 → holds i x ≡ true → x ≤ℤ i.greatest
greatest_above i x fits h = by (int_eq i.greatest (pos 9223372036854775807)) (int_lt i.greatest x) refl refl (right_of _ _ h)
  where
    by : (b c : Bool) → int_eq i.greatest (pos 9223372036854775807) ≡ b → int_lt i.greatest x ≡ c → (b || not c) ≡ true → x ≤ℤ i.greatest
    by true c e f t = (let s = alike i.greatest (pos 9223372036854775807) e in subst (λ (z : ℤ). x ≤ℤ z) (sym s) fits)
    by false true e f t = absurd cc
    by false false e f t = not_below i.greatest x f
