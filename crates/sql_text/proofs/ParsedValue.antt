-- Integers, cut after their sign.
use Rattle.std.proofs.Common.{◌≡◌, ◌≢◌, ℕ, zero, suc, ◌+◌, ◌^◌, true, nat_lt, List, ◌∷◌, pos, neg_ℤ, refl, arith, rules}
use Rattle.std.specs.List.{list_all}
use Rattle.std.proofs.lemmas.Str.Parse.{IsNumeralModel, numerals_by_fold}
use Rattle.std.proofs.lemmas.Bool.Decides.{nat_tests}
use Rattle.sql_text.specs.Word.{is_digit}
use Rattle.sql_text.specs.Value.{is_integer, is_digits, integer, fits_i64, amount, amount_after}

pub own : IsNumeralModel (λ ds. list_all is_digit ds ≡ true) amount
own = numerals_by_fold _ (search rules) amount_after (search rules)

-- the range of a negative integer
pub fits_neg : (n : ℕ) → fits_i64 (neg_ℤ (pos n)) ≡ nat_lt n (2 ^ 63 + 1)
fits_neg zero = refl
fits_neg (suc n) = grind (arith, nat_tests)

-- a text that is an integer without a sign
pub plain : (b : ℕ) (bs : List ℕ) → b ≢ 43 → b ≢ 45 → (is_integer (b ∷ bs) ≡ is_digits (b ∷ bs)) × (integer (b ∷ bs) ≡ pos (amount (b ∷ bs)))
plain b bs p m = (grind (arith, nat_tests), grind (arith, nat_tests))
