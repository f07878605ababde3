-- A reply that is joined is one line.
use Rattle.std.proofs.Common.{◌≢◌, ℕ, zero, suc, ◌<◌, Bool, true, false, cond, List, [], ◌∷◌, map, length, refl, arith, All, slice_index_or, ◌==◌}
use Rattle.std.proofs.lemmas.Bool.Decides.{nat_tests}
use Rattle.cmd_each.specs.Exchange.{exchanged}
use Rattle.cmd_each.specs.OneLine.{without_feed}
use Rattle.cmd_each.specs.Laws.{IsOneLine}

one-exchanged : (b : ℕ) → b ≢ 59 → exchanged b ≢ 10
one-exchanged b differ = λ e. differ (grind (arith, nat_tests))

all-exchanged : (bytes : List ℕ) → All (λ b. b ≢ 59) bytes → All (λ b. b ≢ 10) (map exchanged bytes)
all-exchanged [] all = λ k d lt. absurd (omega (arith, lt))
all-exchanged (b ∷ bytes) all = at (all-exchanged bytes (λ i e less. all (suc i) e (omega (arith, less))))
  where
    at : All (λ x. x ≢ 10) (map exchanged bytes) → (k d : ℕ) → k < length (map exchanged (b ∷ bytes)) → slice_index_or (map exchanged (b ∷ bytes)) k d ≢ 10
    at rest zero d lt = one-exchanged b (all zero b (omega arith))
    at rest (suc k) d lt = rest k d (omega (arith, lt))

without-all : (reply : List ℕ) → All (λ b. b ≢ 59) reply → All (λ b. b ≢ 59) (without_feed reply)
without-all [] all = all
without-all (b ∷ []) all = by (b == 10)
  where
    by : (x : Bool) → All (λ b. b ≢ 59) (cond x [] (b ∷ []))
    by true = λ k d lt. absurd (omega (arith, lt))
    by false = all
without-all (b ∷ c ∷ rest) all = at (without-all (c ∷ rest) (λ i e less. all (suc i) e (omega (arith, less))))
  where
    at : All (λ x. x ≢ 59) (without_feed (c ∷ rest)) → (k d : ℕ) → k < length (b ∷ without_feed (c ∷ rest)) → slice_index_or (b ∷ without_feed (c ∷ rest)) k d ≢ 59
    at behind zero d lt = all zero b (omega arith)
    at behind (suc k) d lt = behind k d (omega (arith, lt))

pub one_line : IsOneLine
one_line reply all = (map exchanged (without_feed reply), refl, all-exchanged (without_feed reply) (without-all reply all))
