-- Integers at the nodes that keep within each bound of a table.
use Rattle.std.specs.Prelude.{ℕ, zero, suc, ℤ, ◌+ℤ◌, int_lt, cond, Option, Some, None}
use Rattle.plan_constraints.specs.Table.{Table}

-- the lesser of z, and d + h where there is d
abbrev pub with_bound : Option ℤ → ℤ → ℤ → ℤ
with_bound None h z = z
with_bound (Some d) h z = cond (int_lt (d +ℤ h) z) (d +ℤ h) z

-- the greatest value of node k, at most its own first one, with which it passes its bound above no node m below n at h m
abbrev pub reach : Table → (ℕ → ℤ) → ℕ → ℕ → ℤ
reach t h zero k = h k
reach t h (suc m) k = with_bound (t k m) (h m) (reach t h m k)
