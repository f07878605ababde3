-- The integer at the front of a text.
use Rattle.std.proofs.Common.{◌≡◌, ◌≢◌, ℕ, zero, suc, ◌+◌, ◌-◌, ◌*◌, ◌<◌, ◌≤◌, ◌^◌, Bool, true, false, cond, ◌&&◌, ◌==◌, nat_lt, List, [], ◌∷◌, ◌++◌, length, take, drop, get_or, Option, Some, None, ℤ, pos, neg_ℤ, refl, ap, sym, ◌∙◌, subst, arith, inl, inr, ◌⊎◌, one-add, append-nil, ltb-true, lt-ltb, lit<}
use Rattle.std.proofs.Math.Nat.{pow-le-pow_right}
use Rattle.std.proofs.lemmas.Grind.{pow_more}
use Rattle.std.specs.List.{list_all, prefix_len}
use Rattle.std.proofs.lemmas.List.{take_more, drop_all}
use Rattle.std.proofs.lemmas.List.Folds.{length-prefix_len}
use Rattle.std.proofs.lemmas.Bool.{cases_eq}
use Rattle.std.proofs.lemmas.Bool.Decides.{nat_tests}
use Rattle.sql_text.specs.Word.{is_digit}
use Rattle.sql_text.specs.Value.{value_of, is_integer, is_digits, integer, fits_i64, amount, amount_after, is_negative, sign_len, integer_len, signed, IsKept}
use Rattle.sql_text.proofs.ParsedValue.{plain, fits_neg}
use Rattle.sql_text.proofs.Fronts.{StopsFor, and_right, front_passes, front_stops}

pub flag : (b : Bool) → (b ≡ true) ⊎ (b ≡ false)
flag true = inl refl
flag false = inr refl

and_true : (b : Bool) → (b && true) ≡ b
and_true true = refl
and_true false = refl

and_cond : (a b : Bool) (x : Option ℤ) → cond (a && b) x None ≡ cond a (cond b x None) None
and_cond true b x = refl
and_cond false b x = refl

pub zero_add : (n : ℕ) → 0 + n ≡ n
zero_add n = omega arith

front_is_digits : (ds : List ℕ) → is_digits (take (prefix_len is_digit ds) ds) ≡ nat_lt 0 (prefix_len is_digit ds)
front_is_digits ds =
    let k = prefix_len is_digit ds in
    ap (λ n. nat_lt 0 n && list_all is_digit (take k ds)) (length-prefix_len is_digit ds) ∙ ap (λ t. nat_lt 0 k && t) (front_passes is_digit ds) ∙ and_true (nat_lt 0 k)

plain_value : (b : ℕ) (bs : List ℕ) → b ≢ 43 → b ≢ 45 → value_of (b ∷ bs) ≡ cond (is_digits (b ∷ bs)) (signed false (amount (b ∷ bs))) None
unfolding value_of
plain_value b bs p m =
    ap (λ t. cond (t && fits_i64 (integer (b ∷ bs))) (Some (integer (b ∷ bs))) None) (plain b bs p m).0
    ∙ ap (λ z. cond (is_digits (b ∷ bs) && fits_i64 z) (Some z) None) (plain b bs p m).1
    ∙ and_cond (is_digits (b ∷ bs)) (fits_i64 (pos (amount (b ∷ bs)))) (Some (pos (amount (b ∷ bs))))

front_value : (n b : ℕ) (bs : List ℕ) → b ≢ 43 → b ≢ 45 → value_of (take n (b ∷ bs)) ≡ cond (is_digits (take n (b ∷ bs))) (signed false (amount (take n (b ∷ bs)))) None
unfolding value_of
front_value zero b bs p m = refl
front_value (suc n) b bs p m = plain_value b (take n bs) p m

plus_value : (bs : List ℕ) → value_of (43 ∷ bs) ≡ cond (is_digits bs) (signed false (amount bs)) None
unfolding value_of
plus_value bs = and_cond (is_digits bs) (fits_i64 (pos (amount bs))) (Some (pos (amount bs)))

minus_value : (bs : List ℕ) → value_of (45 ∷ bs) ≡ cond (is_digits bs) (signed true (amount bs)) None
unfolding value_of
minus_value bs = and_cond (is_digits bs) (fits_i64 (neg_ℤ (pos (amount bs)))) (Some (neg_ℤ (pos (amount bs))))

-- the integer at the front, where the sign has this length
abbrev Leads : List ℕ → ℕ → Bool → Type 0
Leads text s negative = value_of (take (s + prefix_len is_digit (drop s text)) text) ≡ cond (nat_lt 0 (prefix_len is_digit (drop s text))) (signed negative (amount (take (prefix_len is_digit (drop s text)) (drop s text)))) None

behind_plus : (bs : List ℕ) → Leads (43 ∷ bs) 1 false
behind_plus bs =
    let k = prefix_len is_digit bs in
    ap (λ n. value_of (take n (43 ∷ bs))) (one-add k) ∙ plus_value (take k bs) ∙ ap (λ t. cond t (signed false (amount (take k bs))) None) (front_is_digits bs)

behind_minus : (bs : List ℕ) → Leads (45 ∷ bs) 1 true
behind_minus bs =
    let k = prefix_len is_digit bs in
    ap (λ n. value_of (take n (45 ∷ bs))) (one-add k) ∙ minus_value (take k bs) ∙ ap (λ t. cond t (signed true (amount (take k bs))) None) (front_is_digits bs)

with_no_sign : (b : ℕ) (bs : List ℕ) → b ≢ 43 → b ≢ 45 → Leads (b ∷ bs) 0 false
with_no_sign b bs p m =
    let k = prefix_len is_digit (b ∷ bs) in
    ap (λ n. value_of (take n (b ∷ bs))) (zero_add k) ∙ front_value k b bs p m ∙ ap (λ t. cond t (signed false (amount (take k (b ∷ bs)))) None) (front_is_digits (b ∷ bs))

pub no_sign : (b : ℕ) (bs : List ℕ) → b ≢ 43 → b ≢ 45 → sign_len (b ∷ bs) ≡ 0
no_sign b bs p m = grind (arith, nat_tests)

no_minus : (b : ℕ) → b ≢ 45 → (b == 45) ≡ false
no_minus b m = grind (arith, nat_tests)

pub leading_value : (text : List ℕ) → Leads text (sign_len text) (is_negative text)
unfolding value_of
leading_value [] = refl
leading_value (b ∷ bs) = elim (cases_eq b 43) [
  | inl e ↦ let P : ℕ → Type 0 = λ x. Leads (x ∷ bs) (sign_len (x ∷ bs)) (is_negative (x ∷ bs)) in subst P (sym e) (behind_plus bs)
  | inr p ↦ elim (cases_eq b 45) [
    | inl e ↦ let P : ℕ → Type 0 = λ x. Leads (x ∷ bs) (sign_len (x ∷ bs)) (is_negative (x ∷ bs)) in subst P (sym e) (behind_minus bs)
    | inr m ↦ let P : ℕ → Type 0 = λ s. Leads (b ∷ bs) s (b == 45) in let Q : Bool → Type 0 = λ negative. Leads (b ∷ bs) 0 negative in subst P (sym (no_sign b bs p m)) (subst Q (sym (no_minus b m)) (with_no_sign b bs p m))
  ]
]

-- an amount that is kept stands for the same integer
large : (n : ℕ) → 2 ^ 63 < n → (nat_lt n (2 ^ 63) ≡ false) × (nat_lt n (2 ^ 63 + 1) ≡ false)
large n h = (grind (arith, nat_tests), grind (arith, nat_tests))

none_large : (negative : Bool) (n : ℕ) → 2 ^ 63 < n → signed negative n ≡ None
none_large false n h = ap (λ t. cond t (Some (pos n)) None) (large n h).0
none_large true n h = ap (λ t. cond t (Some (neg_ℤ (pos n))) None) (fits_neg n ∙ (large n h).1)

not_less : (n k : ℕ) → nat_lt n k ≡ false → k ≤ n
not_less n k h = grind (arith, nat_tests)

split : (n k : ℕ) → (n < k) ⊎ (k ≤ n)
split n k = elim (flag (nat_lt n k)) [
  | inl h ↦ inl (ltb-true _ _ h)
  | inr h ↦ inr (not_less n k h)
]

signed_kept : (negative : Bool) (kept n : ℕ) → IsKept kept n → signed negative kept ≡ signed negative n
signed_kept negative kept n is = elim (split n (2 ^ 63 + 1)) [
  | inl h ↦ ap (signed negative) (is.exact (omega (arith, h)))
  | inr h ↦ none_large negative kept (is.large (omega (arith, h))) ∙ sym (none_large negative n (omega (arith, h)))
]

-- the integer of the digits at the front, where their amount is kept
pub digits_found : (text : List ℕ) (digits kept : ℕ) (negative : Bool) → digits ≡ prefix_len is_digit text → IsKept kept (amount (take digits text))
    → cond (nat_lt 0 digits) (signed negative kept) None ≡ cond (nat_lt 0 (prefix_len is_digit text)) (signed negative (amount (take (prefix_len is_digit text) text))) None
digits_found text digits kept negative all is =
    ap (λ o. cond (nat_lt 0 digits) o None) (signed_kept negative kept (amount (take digits text)) is)
    ∙ ap (λ k. cond (nat_lt 0 k) (signed negative (amount (take k text))) None) all

-- the integer of a sign and of the digits behind it
pub value_behind : (text rest : List ℕ) (negative : Bool) → negative ≡ is_negative text → rest ≡ drop (sign_len text) text
    → cond (nat_lt 0 (prefix_len is_digit rest)) (signed negative (amount (take (prefix_len is_digit rest) rest))) None ≡ value_of (take (integer_len text) text)
value_behind text rest negative sign is_rest =
    ap (λ b. cond (nat_lt 0 (prefix_len is_digit rest)) (signed b (amount (take (prefix_len is_digit rest) rest))) None) sign
    ∙ ap (λ r. cond (nat_lt 0 (prefix_len is_digit r)) (signed (is_negative text) (amount (take (prefix_len is_digit r) r))) None) is_rest
    ∙ sym (leading_value text)

amount_push : (start : ℕ) (ds : List ℕ) (d : ℕ) → amount_after start (ds ++ d ∷ []) ≡ amount_after start ds * 10 + (d - 48)
amount_push start [] d = refl
amount_push start (x ∷ ds) d = amount_push (start * 10 + (x - 48)) ds d

-- one digit more
kept_more : (kept n d : ℕ) → IsKept kept n → IsKept (cond (nat_lt kept (2 ^ 60)) (kept * 10 + d) (2 ^ 64 - 1)) (n * 10 + d)
kept_more kept n d is = elim (flag (nat_lt kept (2 ^ 60))) [
  | inl h ↦
      let few : kept < 2 ^ 60 = ltb-true _ _ h in
      let same : kept ≡ n = elim (split n (2 ^ 63 + 1)) [
        | inl le ↦ is.exact (omega (arith, le))
        | inr lt ↦ absurd (omega (arith, few, is.large (omega (arith, lt))))
      ] in
      let P : Bool → Type 0 = λ b. IsKept (cond b (kept * 10 + d) (2 ^ 64 - 1)) (n * 10 + d) in
      subst P (sym h) (record { exact = λ _. omega (arith, same); large = λ lt. omega (arith, same, lt) })
  | inr h ↦
      let many : 2 ^ 60 ≤ kept = not_less kept (2 ^ 60) h in
      let also : 2 ^ 60 ≤ n = elim (split n (2 ^ 60)) [
        | inl lt ↦ absurd (omega (arith, many, lt, is.exact (omega (arith, lt))))
        | inr le ↦ le
      ] in
      let P : Bool → Type 0 = λ b. IsKept (cond b (kept * 10 + d) (2 ^ 64 - 1)) (n * 10 + d) in
      subst P (sym h) (record { exact = λ le. absurd (omega (arith, also, le)); large = λ _. omega arith })
]

pub amount_more : (text : List ℕ) (i kept : ℕ) → i < length text → IsKept kept (amount (take i text))
    → IsKept (cond (nat_lt kept (2 ^ 60)) (kept * 10 + (get_or text i 0 - 48)) (2 ^ 64 - 1)) (amount (take (i + 1) text))
amount_more text i kept room is =
    let d = get_or text i 0 - 48 in
    let more : amount (take (i + 1) text) ≡ amount (take i text) * 10 + d = ap amount (take_more text i 0 room) ∙ amount_push 0 (take i text) (get_or text i 0) in
    let P : ℕ → Type 0 = λ n. IsKept (cond (nat_lt kept (2 ^ 60)) (kept * 10 + d) (2 ^ 64 - 1)) n in
    subst P (sym more) (kept_more kept (amount (take i text)) d is)

-- an amount of fewer than 18 digits, with one digit more
pub small_enough : (kept i : ℕ) → kept < 10 ^ i → i < 18 → kept < 10 ^ 17
small_enough kept i h room =
    let below : i ≤ 17 = omega (arith, room) in
    let pow : 10 ^ i ≤ 10 ^ 17 = pow-le-pow_right (lit< tt) below in
    omega (arith, h, pow)

pub small_more : (kept d i : ℕ) → kept < 10 ^ i → d < 10 → kept * 10 + d < 10 ^ (i + 1)
small_more kept d i h few = omega (arith, h, few, pow_more 10 i)

pub amount_small : (text : List ℕ) (i kept : ℕ) → i < length text → IsKept kept (amount (take i text)) → kept < 10 ^ 17 → IsKept (kept * 10 + (get_or text i 0 - 48)) (amount (take (i + 1) text))
amount_small text i kept room is small =
    let P : Bool → Type 0 = λ b. IsKept (cond b (kept * 10 + (get_or text i 0 - 48)) (2 ^ 64 - 1)) (amount (take (i + 1) text)) in
    subst P (lt-ltb _ _ (omega (arith, small))) (amount_more text i kept room is)

pub digit_few : (b : ℕ) → is_digit b ≡ true → b - 48 < 10
digit_few b h = grind (arith, nat_tests)

-- an integer is the longest one at the front of any text that goes on with no digit
pub integer_front : (m rest : List ℕ) → is_integer m ≡ true → StopsFor is_digit rest → integer_len (m ++ rest) ≡ length m
integer_front [] rest h s = cc
integer_front (b ∷ bs) rest h s = elim (cases_eq b 43) [
  | inl e ↦ let P : ℕ → Type 0 = λ x. is_integer (x ∷ bs) ≡ true → integer_len ((x ∷ bs) ++ rest) ≡ suc (length bs) in subst P (sym e) behind h
  | inr p ↦ elim (cases_eq b 45) [
    | inl e ↦ let P : ℕ → Type 0 = λ x. is_integer (x ∷ bs) ≡ true → integer_len ((x ∷ bs) ++ rest) ≡ suc (length bs) in subst P (sym e) behind h
    | inr m ↦
        ap (λ n. n + prefix_len is_digit (drop n (b ∷ (bs ++ rest)))) (no_sign b (bs ++ rest) p m)
        ∙ zero_add (prefix_len is_digit (b ∷ (bs ++ rest)))
        ∙ front_stops is_digit (b ∷ bs) rest (and_right (nat_lt 0 (length (b ∷ bs))) (list_all is_digit (b ∷ bs)) (sym (plain b bs p m).0 ∙ h)) s
  ]
]
  where
    behind : is_digits bs ≡ true → 1 + prefix_len is_digit (bs ++ rest) ≡ suc (length bs)
    behind k = ap (λ n. 1 + n) (front_stops is_digit bs rest (and_right (nat_lt 0 (length bs)) (list_all is_digit bs) k) s) ∙ one-add (length bs)

pub no_integer_no_value : (text : List ℕ) → is_integer text ≡ false → value_of text ≡ None
unfolding value_of
no_integer_no_value text h = ap (λ t. cond (t && fits_i64 (integer text)) (Some (integer text)) None) h

-- a text behind whose leading integer something stands is no integer
pub more_no_value : (text : List ℕ) → 0 < length (drop (integer_len text) text) → value_of text ≡ None
more_no_value text more = elim (flag (is_integer text)) [
  | inl holds ↦
      let whole : integer_len text ≡ length text = ap integer_len (sym (append-nil text)) ∙ integer_front text [] holds tt in
      let none : drop (integer_len text) text ≡ [] = drop_all (integer_len text) text (omega (arith, whole)) in
      absurd (omega (arith, more, ap length none))
  | inr fails ↦ no_integer_no_value text fails
]
