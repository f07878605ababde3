-- Integers at the nodes, from which a solution with one value given is read.
use Rattle.std.specs.Prelude.{ℕ, ℤ, pos, cond, nat_eq}

-- 0 at node 0, v at node i, and m elsewhere
unfoldable pub pinned : ℕ → ℤ → ℤ → ℕ → ℤ
pinned i v m k = cond (nat_eq k 0) (pos 0) (cond (nat_eq k i) v m)
