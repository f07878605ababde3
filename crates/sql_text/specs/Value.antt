-- Integers: a sign or none, and one or more digits.
use Rattle.std.specs.Prelude.{◌≡◌, ℕ, ◌+◌, ◌*◌, ◌-◌, ◌^◌, ◌<◌, ◌≤◌, Bool, false, ◌&&◌, ◌||◌, ◌==◌, nat_lt, if◌then◌else◌, List, [], ◌∷◌, length, drop, Option, Some, None, ℤ, pos, negsuc, neg_ℤ}
use Rattle.std.specs.List.{list_all, prefix_len}
use Rattle.sql_text.specs.Word.{is_digit}

-- one digit or more
abbrev pub is_digits : List ℕ → Bool
is_digits ds = nat_lt 0 (length ds) && list_all is_digit ds

-- an optional sign, and digits
abbrev pub is_integer : List ℕ → Bool
is_integer [] = false
is_integer (b ∷ bs) = if b == 43 then is_digits bs else (if b == 45 then is_digits bs else is_digits (b ∷ bs))

-- the number that digits write: each weighs ten times what the next one does
abbrev pub amount_after : ℕ → List ℕ → ℕ
amount_after n [] = n
amount_after n (d ∷ ds) = amount_after (n * 10 + (d - 48)) ds

abbrev pub amount : List ℕ → ℕ
amount ds = amount_after 0 ds

-- the number that an integer writes
abbrev pub integer : List ℕ → ℤ
integer [] = pos 0
integer (b ∷ bs) = if b == 43 then pos (amount bs) else (if b == 45 then neg_ℤ (pos (amount bs)) else pos (amount (b ∷ bs)))

-- a value of 64 bits with a sign
abbrev pub fits_i64 : ℤ → Bool
fits_i64 (pos n) = nat_lt n (2 ^ 63)
fits_i64 (negsuc n) = nat_lt n (2 ^ 63)

-- the value of a field: that of an integer that fills it and fits
unfoldable pub value_of : List ℕ → Option ℤ
value_of field = if is_integer field && fits_i64 (integer field) then Some (integer field) else None

-- whether a minus begins the text
abbrev pub is_negative : List ℕ → Bool
is_negative [] = false
is_negative (b ∷ bs) = b == 45

-- whether a plus begins the text
abbrev pub has_plus : List ℕ → Bool
has_plus [] = false
has_plus (b ∷ bs) = b == 43

-- how many bytes the sign at the front of a text has, where one is there
abbrev pub sign_len : List ℕ → ℕ
sign_len text = if is_negative text || has_plus text then 1 else 0

-- how many bytes the longest front of a text has that is a sign or none and then digits or none
abbrev pub integer_len : List ℕ → ℕ
integer_len text = sign_len text + prefix_len is_digit (drop (sign_len text) text)

-- the integer of an amount, negative or not, where it fits
abbrev pub signed : Bool → ℕ → Option ℤ
signed negative n = if fits_i64 (if negative then neg_ℤ (pos n) else pos n) then Some (if negative then neg_ℤ (pos n) else pos n) else None

-- an amount that an integer of 64 bits can have is kept, and any larger one is kept as a larger one
pub record IsKept (kept n : ℕ) : Type 0 where
  pub exact : n ≤ 2 ^ 63 → kept ≡ n
  pub large : 2 ^ 63 < n → 2 ^ 63 < kept
