-- The text of an integer, by its sign.
use Rattle.std.proofs.Common.{◌≡◌, ℤ, pos, negsuc, false, ◌∷◌, refl, sym, ◌∙◌, int_le, unsigned_abs, true≢false}
use lib.Dec.{leb-zero}
use Rattle.std.specs.Fmt.{decimal, signed_decimal}

-- below 0 a minus stands before the amount
pub minus_first : (z : ℤ) → int_le (pos 0) z ≡ false → 45 ∷ decimal (unsigned_abs z) ≡ signed_decimal z
minus_first (pos n) e = absurd (true≢false (sym (leb-zero n) ∙ e))
minus_first (negsuc n) e = refl
