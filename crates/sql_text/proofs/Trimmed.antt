-- A text between blanks.
use Rattle.std.proofs.Common.{◌≡◌, ℕ, ◌+◌, ◌-◌, Bool, true, false, not, nat_lt, ◌&&◌, ◌||◌, ◌==◌, List, [], ◌∷◌, ◌++◌, length, take, drop, reverse, refl, ap, sym, ◌∙◌, subst, arith, inl, inr, one-add, append-nil}
use Rattle.std.specs.List.{list_all, prefix_len, suffix_len}
use Rattle.std.proofs.lemmas.List.{take-append-drop, take_at, drop_at, drop_all, reverse-append, reverse-reverse, length-append, length-reverse, length-drop}
use Rattle.std.proofs.lemmas.List.Folds.{list_all-append}
use Rattle.std.proofs.lemmas.Bool.{cases_eq}
use Rattle.std.proofs.lemmas.Bool.Decides.{nat_tests}
use Rattle.sql_text.specs.Blank.{is_blank, without_blanks_before, without_blanks_behind, trimmed}
use Rattle.sql_text.specs.Word.{is_digit}
use Rattle.sql_text.specs.Value.{is_integer, integer_len}
use Rattle.sql_text.proofs.ParsedValue.{plain}
use Rattle.sql_text.proofs.Fronts.{StopsFor, and_left, and_right, and_both, front_passes, front_stops, all_weaker}
use Rattle.sql_text.proofs.LeadingValue.{integer_front, no_sign, zero_add}

abbrev pub is_solid : ℕ → Bool
is_solid b = is_digit b || (b == 43 || b == 45)

abbrev pub is_no_blank : ℕ → Bool
is_no_blank b = not (is_blank b)

turn : (a b : Bool) → (a && (b && true)) ≡ (b && a)
turn true true = refl
turn true false = refl
turn false true = refl
turn false false = refl

all_reverse : (p : ℕ → Bool) (bs : List ℕ) → list_all p (reverse bs) ≡ list_all p bs
all_reverse p [] = refl
all_reverse p (b ∷ bs) =
    ap (list_all p) (reverse-append (b ∷ []) bs) ∙ list_all-append p (reverse bs) (b ∷ []) ∙ ap (λ t. t && (p b && true)) (all_reverse p bs)
    ∙ turn (list_all p bs) (p b)

-- what `trimmed` cuts off at the end are blanks
blanks_behind : (text : List ℕ) → list_all is_blank (drop (length text - suffix_len is_blank text) text) ≡ true
blanks_behind text =
    let back = reverse text in
    let n = prefix_len is_blank back in
    let whole : text ≡ reverse (drop n back) ++ reverse (take n back) = sym (reverse-reverse text) ∙ ap reverse (sym (take-append-drop n back)) ∙ reverse-append (take n back) (drop n back) in
    let count : length (reverse (drop n back)) ≡ length text - n = length-reverse (drop n back) ∙ length-drop n back ∙ ap (λ m. m - n) (length-reverse text) in
    let cut : drop (length text - n) text ≡ reverse (take n back) = ap (drop (length text - n)) whole ∙ drop_at (reverse (drop n back)) (reverse (take n back)) (length text - n) count in
    ap (list_all is_blank) cut ∙ all_reverse is_blank (take n back) ∙ front_passes is_blank back

-- a text is one part between blanks
pub record Between (text inner : List ℕ) : Type 0 where
  pub before : List ℕ
  pub behind : List ℕ
  pub whole : text ≡ before ++ (inner ++ behind)
  pub blanks_before : list_all is_blank before ≡ true
  pub blanks_after : list_all is_blank behind ≡ true

pub trimmed_parts : (text : List ℕ) → Between text (trimmed text)
unfolding trimmed
trimmed_parts text =
    let n = prefix_len is_blank text in
    let rest = without_blanks_before text in
    let m = length rest - suffix_len is_blank rest in
    record {
      before = take n text;
      behind = drop m rest;
      whole = sym (take-append-drop n text) ∙ ap (λ r. take n text ++ r) (sym (take-append-drop m rest));
      blanks_before = front_passes is_blank text;
      blanks_after = blanks_behind rest;
    }

all_blank : (text : List ℕ) → list_all is_blank text ≡ true → trimmed text ≡ []
unfolding trimmed
all_blank text h =
    let n : prefix_len is_blank text ≡ length text = ap (prefix_len is_blank) (sym (append-nil text)) ∙ front_stops is_blank text [] h tt in
    ap without_blanks_behind (drop_all (prefix_len is_blank text) text (omega (arith, n)))

blank_false : (b : Bool) → not b ≡ true → b ≡ false
blank_false true h = cc
blank_false false h = refl

no_blank_stops : (bs : List ℕ) → list_all is_no_blank bs ≡ true → StopsFor is_blank bs
no_blank_stops [] h = tt
no_blank_stops (b ∷ bs) h = blank_false (is_blank b) (and_left (is_no_blank b) (list_all is_no_blank bs) h)

kept_behind : (inner behind : List ℕ) → list_all is_no_blank inner ≡ true → list_all is_blank behind ≡ true → without_blanks_behind (inner ++ behind) ≡ inner
kept_behind inner behind h k =
    let n : suffix_len is_blank (inner ++ behind) ≡ length behind =
    ap (prefix_len is_blank) (reverse-append inner behind)
    ∙ front_stops is_blank (reverse behind) (reverse inner) (all_reverse is_blank behind ∙ k) (no_blank_stops (reverse inner) (all_reverse is_no_blank inner ∙ h))
    ∙ length-reverse behind in
    let m : length (inner ++ behind) - suffix_len is_blank (inner ++ behind) ≡ length inner = omega (arith, n, length-append inner behind) in
    ap (λ k. take k (inner ++ behind)) m ∙ take_at inner behind (length inner) refl

-- a part without blanks is what is left between blanks
pub trimmed_between : (before inner behind : List ℕ) → list_all is_blank before ≡ true → list_all is_no_blank inner ≡ true → list_all is_blank behind ≡ true → trimmed (before ++ (inner ++ behind)) ≡ inner
unfolding trimmed
trimmed_between before [] behind h k l = all_blank (before ++ behind) (list_all-append is_blank before behind ∙ and_both (list_all is_blank before) (list_all is_blank behind) h l)
trimmed_between before (b ∷ bs) behind h k l =
    let inner = b ∷ bs in
    let n : prefix_len is_blank (before ++ (inner ++ behind)) ≡ length before = front_stops is_blank before (inner ++ behind) h (no_blank_stops inner k) in
    ap (λ m. without_blanks_behind (drop m (before ++ (inner ++ behind)))) n
    ∙ ap without_blanks_behind (drop_at before (inner ++ behind) (length before) refl)
    ∙ kept_behind inner behind k l

digit_no_blank : (b : ℕ) → is_digit b ≡ true → is_blank b ≡ false
digit_no_blank b h = grind (arith, nat_tests)

blank_no_digit : (b : ℕ) → is_blank b ≡ true → is_digit b ≡ false
blank_no_digit b h = grind (arith, nat_tests)

digit_solid : (b : ℕ) → is_digit b ≡ true → is_solid b ≡ true
digit_solid b h = ap (λ t. t || (b == 43 || b == 45)) h

pub solid_no_blank : (b : ℕ) → is_solid b ≡ true → is_no_blank b ≡ true
solid_no_blank b h = grind (arith, nat_tests)

-- an integer begins with no blank
integer_starts : (m rest : List ℕ) → is_integer m ≡ true → StopsFor is_blank (m ++ rest)
integer_starts [] rest h = cc
integer_starts (b ∷ bs) rest h = elim (cases_eq b 43) [
  | inl e ↦ ap is_blank e
  | inr p ↦ elim (cases_eq b 45) [
    | inl e ↦ ap is_blank e
    | inr m ↦ digit_no_blank b (and_left (is_digit b) (list_all is_digit bs) (and_right (nat_lt 0 (length (b ∷ bs))) (list_all is_digit (b ∷ bs)) (sym (plain b bs p m).0 ∙ h)))
  ]
]

digit_stops : (behind tail : List ℕ) → list_all is_blank behind ≡ true → StopsFor is_digit tail → StopsFor is_digit (behind ++ tail)
digit_stops [] tail h s = s
digit_stops (b ∷ behind) tail h s = blank_no_digit b (and_left (is_blank b) (list_all is_blank behind) h)

-- what stands behind the integer at the front, blanks before and behind it dropped
abbrev pub behind_integer : List ℕ → List ℕ
behind_integer text = without_blanks_before (drop (integer_len (without_blanks_before text)) (without_blanks_before text))

pub integer_between : (before m behind tail : List ℕ) → list_all is_blank before ≡ true → is_integer m ≡ true → list_all is_blank behind ≡ true → StopsFor is_blank tail → StopsFor is_digit tail
    → behind_integer (before ++ (m ++ (behind ++ tail))) ≡ tail
integer_between before m behind tail h k l s d =
    let rest = m ++ (behind ++ tail) in
    let n : prefix_len is_blank (before ++ rest) ≡ length before = front_stops is_blank before rest h (integer_starts m (behind ++ tail) k) in
    let first : without_blanks_before (before ++ rest) ≡ rest = ap (λ i. drop i (before ++ rest)) n ∙ drop_at before rest (length before) refl in
    let second : drop (integer_len rest) rest ≡ behind ++ tail = ap (λ i. drop i rest) (integer_front m (behind ++ tail) k (digit_stops behind tail l d)) ∙ drop_at m (behind ++ tail) (length m) refl in
    let i : prefix_len is_blank (behind ++ tail) ≡ length behind = front_stops is_blank behind tail l s in
    ap (λ t. without_blanks_before (drop (integer_len t) t)) first
    ∙ ap without_blanks_before second
    ∙ ap (λ j. drop j (behind ++ tail)) i ∙ drop_at behind tail (length behind) refl

-- the integer at the front has digits and a sign alone
pub leading_solid : (text : List ℕ) → list_all is_solid (take (integer_len text) text) ≡ true
leading_solid [] = refl
leading_solid (b ∷ bs) = elim (cases_eq b 43) [
  | inl e ↦ let P : ℕ → Type 0 = λ x. list_all is_solid (take (integer_len (x ∷ bs)) (x ∷ bs)) ≡ true in subst P (sym e) (ap (λ n. list_all is_solid (take n (43 ∷ bs))) (one-add (prefix_len is_digit bs)) ∙ digits bs)
  | inr p ↦ elim (cases_eq b 45) [
    | inl e ↦ let P : ℕ → Type 0 = λ x. list_all is_solid (take (integer_len (x ∷ bs)) (x ∷ bs)) ≡ true in subst P (sym e) (ap (λ n. list_all is_solid (take n (45 ∷ bs))) (one-add (prefix_len is_digit bs)) ∙ digits bs)
    | inr m ↦
        ap (λ n. list_all is_solid (take (n + prefix_len is_digit (drop n (b ∷ bs))) (b ∷ bs))) (no_sign b bs p m)
        ∙ ap (λ n. list_all is_solid (take n (b ∷ bs))) (zero_add (prefix_len is_digit (b ∷ bs)))
        ∙ digits (b ∷ bs)
  ]
]
  where
    digits : (ds : List ℕ) → list_all is_solid (take (prefix_len is_digit ds) ds) ≡ true
    digits ds = all_weaker is_digit is_solid digit_solid (take (prefix_len is_digit ds) ds) (front_passes is_digit ds)
