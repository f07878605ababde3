-- Counts of 64 bits that stand still at their end.
use Rattle.std.specs.Prelude.{ℕ, ◌+◌, ◌-◌, ◌^◌, ◌≤◌, min}

-- one more, up to the end
abbrev pub one_more : ℕ → ℕ
one_more n = min (n + 1) (2 ^ 64 - 1)

-- the count rose: it is greater than before, or it stands at its end
abbrev pub Rose : ℕ → ℕ → Type 0
Rose before after = one_more before ≤ after
