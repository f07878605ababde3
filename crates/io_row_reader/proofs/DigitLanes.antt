-- Digits that are looked at together.
use Rattle.std.proofs.Common.{◌≡◌, ℕ, zero, suc, ◌+◌, ◌-◌, ◌*◌, ◌%◌, ◌^◌, ◌<◌, ◌≤◌, Bool, true, false, cond, List, [], ◌∷◌, ◌++◌, length, map, take, drop, replicate, refl, ap, sym, ◌∙◌, subst, arith}
use Rattle.std.specs.Int.Digits.{AllBelowBase, number_from_digits, number_from_digits_after}
use Rattle.std.specs.List.{prefix_len}
use Rattle.std.proofs.lemmas.Bool.Decides.{nat_tests}
use Rattle.std.proofs.lemmas.Simd.{map-map, mask_l-mod}
use Rattle.std.proofs.lemmas.List.{length-map}
use lib.Lanes.{mask_l, top}
use Rattle.sql_text.specs.Word.{is_digit}
use Rattle.sql_text.specs.Value.{amount, amount_after}
use Rattle.io_row_reader.proofs.FieldsAhead.{HasDigits}
use Rattle.io_row_reader.proofs.PlainFields.{within_18}
use Rattle.io_row_reader.proofs.RowsCounted.{small_front}

-- the mask of the lanes in which f sets the top bit, where these are the bytes that are no digits
pub mask_is : (f : ℕ → ℕ) (lanes marks : List ℕ) → length lanes ≡ 16 → marks ≡ map f lanes → mask_l (map (top 7) marks) % 2 ^ 64 ≡ mask_l (map (λ x. top 7 (f x)) lanes)
mask_is f lanes marks long is =
    ap (λ l. mask_l l % 2 ^ 64) (ap (map (top 7)) is ∙ map-map (top 7) f lanes) ∙ mask_l-mod (map (λ x. top 7 (f x)) lanes) 64 (omega (arith, length-map lanes (λ x. top 7 (f x)), long))

-- The amount of the digits in front.

-- what a byte stands for above `0`, in one byte
abbrev pub minus : ℕ → ℕ
minus x = (x + 208) % 256

pub digit_minus : (x : ℕ) → is_digit x ≡ true → (minus x ≡ x - 48) × (x - 48 < 10)
digit_minus x h = grind (arith, nat_tests)

-- the digits in front, each as its number
record Writes (n from : ℕ) (xs : List ℕ) : Type 0 where
  pub small : AllBelowBase 10 (take n (map minus xs))
  pub number : number_from_digits_after 10 from (take n (map minus xs)) ≡ amount_after from (take n xs)

begins : (b : Bool) (m n : ℕ) → suc n ≤ cond b (1 + m) 0 → (b ≡ true) × (n ≤ m)
begins true m n few = (refl, omega (arith, few))
begins false m n few = absurd (omega (arith, few))

writes : (n from : ℕ) (xs : List ℕ) → n ≤ prefix_len is_digit xs → Writes n from xs
writes zero from xs few = record { small = tt; number = refl }
writes (suc n) from [] few = absurd (omega (arith, few))
writes (suc n) from (x ∷ xs) few =
    let one = begins (is_digit x) (prefix_len is_digit xs) n few in
    let digit = digit_minus x one.0 in
    let others = writes n (from * 10 + (x - 48)) xs one.1 in
    record {
      small = (omega (arith, digit.0, digit.1), others.small);
      number = ap (λ d. number_from_digits_after 10 (from * 10 + d) (take n (map minus xs))) digit.0 ∙ others.number;
    }

behind_zeros : (k : ℕ) (digits : List ℕ) → number_from_digits_after 10 0 (replicate k 0 ++ digits) ≡ number_from_digits_after 10 0 digits
behind_zeros zero digits = refl
behind_zeros (suc k) digits = behind_zeros k digits

zeros_small : (k : ℕ) (digits : List ℕ) → AllBelowBase 10 digits → AllBelowBase 10 (replicate k 0 ++ digits)
zeros_small zero digits small = small
zeros_small (suc k) digits small = (omega arith, zeros_small k digits small)

-- a number of digits behind zeros
pub record Padded (padded digits : List ℕ) : Type 0 where
  pub small : AllBelowBase 10 padded
  pub number : number_from_digits 10 padded ≡ amount digits

pub behind_zeros_is : (padded xs : List ℕ) (k n : ℕ) → n ≤ prefix_len is_digit xs → padded ≡ replicate k 0 ++ take n (map minus xs) → Padded padded (take n xs)
behind_zeros_is padded xs k n few is =
    let told = writes n 0 xs few in record {
      small = subst (λ (l : List ℕ). AllBelowBase 10 l) (sym is) (zeros_small k (take n (map minus xs)) told.small);
      number = ap (number_from_digits 10) is ∙ behind_zeros k (take n (map minus xs)) ∙ told.number;
    }

-- Digits of a text by those among its next bytes.

-- the amount of a few digits
pub few_small : (text : List ℕ) (n kept : ℕ) → n ≡ prefix_len is_digit text → n ≤ 18 → kept ≡ amount (take n text) → kept < 10 ^ 18
few_small text n kept run few is = within_18 kept n (subst (λ k. k < 10 ^ n) (sym is) (small_front text n (omega (arith, run)))) (omega (arith, few))

less_or_same : (b : Bool) (m k : ℕ) → m ≤ k → cond b (1 + m) 0 ≤ cond b (1 + k) 0
less_or_same true m k h = omega (arith, h)
less_or_same false m k h = omega arith

pub run_within : (p : ℕ → Bool) (n : ℕ) (xs : List ℕ) → prefix_len p (take n xs) ≤ prefix_len p xs
run_within p zero xs = omega arith
run_within p (suc n) [] = omega arith
run_within p (suc n) (x ∷ xs) = less_or_same (p x) (prefix_len p (take n xs)) (prefix_len p xs) (run_within p n xs)

same_where_short : (b : Bool) (m k n : ℕ) → (m < n → m ≡ k) → cond b (1 + m) 0 < suc n → cond b (1 + m) 0 ≡ cond b (1 + k) 0
same_where_short true m k n h lt = ap (λ i. 1 + i) (h (omega (arith, lt)))
same_where_short false m k n h lt = refl

-- where other bytes are seen, all digits are
pub run_whole : (p : ℕ → Bool) (n : ℕ) (xs : List ℕ) → prefix_len p (take n xs) < n → prefix_len p (take n xs) ≡ prefix_len p xs
run_whole p zero xs lt = absurd (omega (arith, lt))
run_whole p (suc n) [] lt = refl
run_whole p (suc n) (x ∷ xs) lt = same_where_short (p x) (prefix_len p (take n xs)) (prefix_len p xs) n (run_whole p n xs) lt

one_more : (b : Bool) (m k n : ℕ) → (n ≤ m → m ≡ n + k) → suc n ≤ cond b (1 + m) 0 → cond b (1 + m) 0 ≡ suc n + k
one_more true m k n h le = omega (arith, h (omega (arith, le)))
one_more false m k n h le = absurd (omega (arith, le))

pub run_from : (p : ℕ → Bool) (n : ℕ) (xs : List ℕ) → n ≤ prefix_len p xs → prefix_len p xs ≡ n + prefix_len p (drop n xs)
run_from p zero xs le = omega arith
run_from p (suc n) [] le = absurd (omega (arith, le))
run_from p (suc n) (x ∷ xs) le = one_more (p x) (prefix_len p xs) (prefix_len p (drop n xs)) n (run_from p n xs) le

-- the first digits, with which to go on
pub digits_begun : (text : List ℕ) (start len kept : ℕ) → len ≤ prefix_len is_digit (drop start text) → start + len < length text → kept ≡ amount (take len (drop start text)) → HasDigits text start len kept
digits_begun text start len kept few room is =
    let rest = drop start text in record {
      digits = run_from is_digit len rest few;
      within = room;
      amount = λ _. is;
      small = λ _. subst (λ n. n < 10 ^ len) (sym is) (small_front rest len few);
    }
