-- The ends of a range.
use Rattle.std.proofs.Common.{◌≡◌, ℕ, ◌+◌, ◌-◌, ◌<◌, ◌≤◌, min, ℤ, pos, neg_ℤ, ◌+ℤ◌, ◌-ℤ◌, ◌≤ℤ◌, nat_abs, ap, ◌∙◌, arith}
use Rattle.std.proofs.Math.Nat.{min-le_right}
use Rattle.std.proofs.lemmas.Int.{ints}
use Rattle.sem_query.specs.Query.{IsShort}
use Rattle.adv_mends.specs.declared.mend.Ends.{Ends}
use Rattle.adv_mends.specs.Mended.{AreEnds}
use Rattle.adv_key_ranges.specs.Cutting.{value_count, begins, range_at}
use Rattle.adv_key_ranges.proofs.Cuts.{begins_within, begins-less}

-- what is so many above the least value, and no more than there are, is a value
above-short : (ends : Ends) → AreEnds ends → (b : ℕ) → b + 1 ≤ value_count ends → IsShort (ends.lo +ℤ pos b)
above-short ends is b l = record { low = low ends.lo b is.low.low; high = high ends.lo ends.hi b is.high.high is.some l }
  where
    low : (lo : ℤ) (b : ℕ) → neg_ℤ (pos 999999999999999) ≤ℤ lo → neg_ℤ (pos 999999999999999) ≤ℤ (lo +ℤ pos b)
    low lo b h = grind (arith, ints)

    high : (lo hi : ℤ) (b : ℕ) → hi ≤ℤ pos 999999999999999 → lo ≤ℤ hi → b + 1 ≤ nat_abs (hi -ℤ lo) + 1 → (lo +ℤ pos b) ≤ℤ pos 999999999999999
    high lo hi b h s l = grind (arith, ints)

in_order : (lo : ℤ) (b c : ℕ) → b ≤ c → (lo +ℤ pos b) ≤ℤ (lo +ℤ pos c)
in_order lo b c l = grind (arith, ints)

-- a range has ends
pub range-ends : (ends : Ends) (k i : ℕ) → AreEnds ends → i < k → k ≤ value_count ends → AreEnds (range_at ends k i)
unfolding range_at
range-ends ends k i is l m =
    let n : ℕ = value_count ends in
    let less : begins n k i + 1 ≤ begins n k (i + 1) = begins-less n k i (omega (arith, l)) m in
    let few : begins n k (i + 1) ≤ n = begins_within n k (i + 1) (omega (arith, l)) (omega (arith, l)) in
    record {
      low = above-short ends is (begins n k i) (omega (arith, less, few));
      high = above-short ends is (begins n k (i + 1) - 1) (omega (arith, less, few));
      some = in_order ends.lo (begins n k i) (begins n k (i + 1) - 1) (omega (arith, less));
    }

-- so many ranges are no more than there are values
pub few-ranges : (k n : ℕ) → k ≤ min 64 n → k ≤ n
few-ranges k n l = omega (arith, l, min-le_right 64 n)

-- a range of these ends
pub range-is : (ends : Ends) (k i n b c : ℕ) (lo hi : ℤ) → n ≡ value_count ends → b ≡ begins n k i → c ≡ begins n k (i + 1) → lo ≡ ends.lo +ℤ pos b → hi ≡ ends.lo +ℤ pos (c - 1)
    → record { lo = lo; hi = hi } ≡ range_at ends k i
unfolding range_at
range-is ends k i n b c lo hi e f g h j =
    let low : lo ≡ ends.lo +ℤ pos (begins (value_count ends) k i) = h ∙ ap (λ (x : ℕ). ends.lo +ℤ pos x) (f ∙ ap (λ (x : ℕ). begins x k i) e) in
    let high : hi ≡ ends.lo +ℤ pos (begins (value_count ends) k (i + 1) - 1) = j ∙ ap (λ (x : ℕ). ends.lo +ℤ pos (x - 1)) (g ∙ ap (λ (x : ℕ). begins x k (i + 1)) e) in
    λ t. record { lo = low t; hi = high t }
