-- The numbers that words are, and how they are read.
use Rattle.std.proofs.Common.{◌≡◌, ◌≢◌, ℕ, ◌^◌, Bool, true, false, cond, ◌&&◌, nat_lt, List, [], ◌∷◌, length, None, Some, Option, pos, refl, ap, sym, ◌∙◌, arith}
use Rattle.std.specs.List.{list_all}
use Rattle.std.specs.Option.{option_and_then}
use Rattle.std.proofs.lemmas.Bool.Decides.{nat_tests}
use Rattle.sql_text.specs.Word.{is_digit}
use Rattle.sql_text.specs.Value.{value_of, is_digits, integer, fits_i64, amount}
use Rattle.sql_text.proofs.ParsedValue.{plain}
use Rattle.cert_format.specs.Spelling.{small, number_of}

no_digits : (a b : Bool) (x : Option ℕ) → cond ((a && false) && b) x None ≡ None
no_digits true b x = refl
no_digits false b x = refl

-- a word with another byte is no number
pub number_no_digits : (word : List ℕ) → list_all is_digit word ≡ false → number_of word ≡ None
unfolding number_of
number_no_digits word h =
    ap (λ t. cond ((nat_lt 0 (length word) && t) && nat_lt (amount word) 65536) (Some (amount word)) None) h
    ∙ no_digits (nat_lt 0 (length word)) (nat_lt (amount word) 65536) (Some (amount word))

digit_no_sign : (b : ℕ) (bs : List ℕ) → list_all is_digit (b ∷ bs) ≡ true → (b ≢ 43) × (b ≢ 45)
digit_no_sign b bs h = (grind (arith, nat_tests), grind (arith, nat_tests))

-- a number that is small is one of 64 bits
small_again : (d : Bool) (n : ℕ) → cond (d && nat_lt n 65536) (Some n) None ≡ option_and_then small (cond (d && nat_lt n (2 ^ 63)) (Some (pos n)) None)
small_again false n = refl
small_again true n = by (nat_lt n (2 ^ 63)) refl
  where
    large : nat_lt n (2 ^ 63) ≡ false → nat_lt n 65536 ≡ false
    large f = grind (arith, nat_tests)

    by : (w : Bool) → nat_lt n (2 ^ 63) ≡ w → cond (nat_lt n 65536) (Some n) None ≡ option_and_then small (cond (nat_lt n (2 ^ 63)) (Some (pos n)) None)
    by true f = sym (ap (λ w. option_and_then small (cond w (Some (pos n)) None)) f)
    by false f = ap (λ w. cond w (Some n) None) (large f) ∙ sym (ap (λ w. option_and_then small (cond w (Some (pos n)) None)) f)

-- the number of a word of digits is its integer, where that is small
pub number_by_value : (word : List ℕ) → list_all is_digit word ≡ true → number_of word ≡ option_and_then small (value_of word)
unfolding number_of value_of
number_by_value [] h = refl
number_by_value (b ∷ bs) h =
    let no = digit_no_sign b bs h in
    let same = plain b bs no.0 no.1 in
    small_again (is_digits (b ∷ bs)) (amount (b ∷ bs))
    ∙ ap (λ z. option_and_then small (cond (is_digits (b ∷ bs) && fits_i64 z) (Some z) None)) (sym same.1)
    ∙ ap (λ t. option_and_then small (cond (t && fits_i64 (integer (b ∷ bs))) (Some (integer (b ∷ bs))) None)) (sym same.0)
