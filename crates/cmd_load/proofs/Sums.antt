-- Sums under `%`.
use Rattle.std.proofs.Common.{◌≡◌, ℕ, ◌+◌, ◌%◌}
use Rattle.std.proofs.Math.Nat.{mod-add-mod}

pub sum_mod : (a m b : ℕ) → (a % m + b) % m ≡ (a + b) % m
sum_mod a m b = mod-add-mod a m b
