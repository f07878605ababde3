-- The values between two ends, cut into ranges that follow each other: so many that no two differ by more than one value in width.
use Rattle.std.specs.Prelude.{ℕ, ◌+◌, ◌-◌, ◌*◌, ◌/◌, min, pos, ◌+ℤ◌, ◌-ℤ◌, nat_abs}
use Rattle.adv_mends.specs.declared.mend.Ends.{Ends}

-- how many values there are, both ends included
abbrev pub value_count : Ends → ℕ
value_count ends = nat_abs (ends.hi -ℤ ends.lo) + 1

-- how many of n values stand before the i-th of k ranges, counted from 0: i n / k, rounded up
unfoldable pub begins : ℕ → ℕ → ℕ → ℕ
begins n k i = (i * n + (k - 1)) / k

-- the i-th of k ranges, counted from 0
unfoldable pub range_at : Ends → ℕ → ℕ → Ends
range_at ends k i = record {
  lo = ends.lo +ℤ pos (begins (value_count ends) k i);
  hi = ends.lo +ℤ pos (begins (value_count ends) k (i + 1) - 1);
}

-- the most ranges that are tried: 64, and no more than there are values
abbrev pub most_ranges : Ends → ℕ
most_ranges ends = min 64 (value_count ends)
