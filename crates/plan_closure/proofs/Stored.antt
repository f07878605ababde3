-- The places behind the numbers of a path.
use Rattle.std.proofs.Common.{◌≡◌, ℕ, ◌≤◌, ◌+◌, ◌∙◌, List, length, drop, set, arith}
use Rattle.std.specs.Prelude.{replicate}
use Rattle.std.proofs.lemmas.List.{drop-set-lt, drop-replicate}
use Rattle.std.proofs.lemmas.Grind.{drop_more_same}
use Rattle.plan_closure.specs.Paths.{IsStored}

-- behind the next number there are zeros as before
pub zeros_more : (xs : List ℕ) (k x : ℕ) → drop k xs ≡ drop k (replicate 12 0) → drop (k + 1) (set xs k x) ≡ drop (k + 1) (replicate 12 0)
zeros_more xs k x e = drop-set-lt (k + 1) xs k x (omega arith) ∙ drop_more_same xs (replicate 12 0) k e

-- a path of as many numbers as were walked
pub stored_at : (xs : List ℕ) (k n : ℕ) → k ≡ n → n ≤ 12 → length xs ≡ 12 → drop k xs ≡ drop k (replicate 12 0) → IsStored record { steps = xs; len = n }
stored_at xs k n e l f z = record { short = l; filled = f; zeros = rw (← e) (z ∙ drop-replicate k 12 0) }
