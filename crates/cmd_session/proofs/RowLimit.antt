-- Numbers of rows in their shortest form.
use Rattle.std.proofs.Common.{◌≡◌, ℕ, ◌<◌, ◌^◌, List, decimal, sym, ◌∙◌, arith}
use Rattle.std.proofs.lemmas.Fmt.{decimal_injective}
use Rattle.cmd_session.specs.Words.{IsRowLimit}

-- a text is the shortest form of one number
pub one_number : (text : List ℕ) (number n : ℕ) → number < 2 ^ 64 → text ≡ decimal number → IsRowLimit text n → number ≡ n
one_number text number n small e is = decimal_injective number n small (omega (arith, is.few)) (sym e ∙ is.digits)
