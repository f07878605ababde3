-- Whether an element passes a test, by the place of the first that does.
use Rattle.std.proofs.Common.{◌≡◌, ℕ, suc, ◌+◌, Bool, true, false, cond, not, ◌||◌, nat_lt, List, [], ◌∷◌, length, Some, None, is_some, refl, ◌∙◌, arith}
use Rattle.std.specs.List.{list_any, position, position_or_len}
use Rattle.std.proofs.lemmas.Bool.Decides.{nat_tests}

zero_first : (n : ℕ) → nat_lt 0 (suc n) ≡ true
zero_first n = grind (arith, nat_tests)

one_further : (m n : ℕ) → nat_lt (1 + m) (suc n) ≡ nat_lt m n
one_further m n = grind (arith, nat_tests)

by_first : (b : Bool) (m n : ℕ) (l : Bool) → nat_lt m n ≡ l → nat_lt (cond (not b) (1 + m) 0) (suc n) ≡ (b || l)
by_first true m n l e = zero_first n
by_first false m n l e = one_further m n ∙ e

place_any : {X : Type 0} (p : X → Bool) (xs : List X) → nat_lt (position_or_len p xs) (length xs) ≡ list_any p xs
place_any p [] = refl
place_any p (x ∷ xs) = by_first (p x) (position_or_len p xs) (length xs) (list_any p xs) (place_any p xs)

if_some : (b : Bool) (i : ℕ) → is_some (cond b (Some i) None) ≡ b
if_some true i = refl
if_some false i = refl

pub has_place : {X : Type 0} (p : X → Bool) (xs : List X) → is_some (position p xs) ≡ list_any p xs
has_place p xs = if_some (nat_lt (position_or_len p xs) (length xs)) (position_or_len p xs) ∙ place_any p xs
