-- Where two runs of digits end.
use Rattle.std.proofs.Common.{◌≡◌, ℕ, suc, ◌+◌, ◌-◌, ◌*◌, ◌%◌, ◌^◌, ◌<◌, ◌≤◌, Bool, true, false, not, cond, bit_and, Fits, w8, List, [], ◌∷◌, length, map, drop, refl, ap, sym, ◌∙◌, subst, arith}
use Rattle.std.specs.List.{prefix_len}
use Rattle.std.proofs.lemmas.Bool.{agree_below, agree_below_at}
use Rattle.std.proofs.lemmas.Nat.{and_block, and_le_l}
use Rattle.std.proofs.lemmas.Simd.{leading_from_mask_l, mask_l-lt, trailing_mask_l}
use Rattle.std.proofs.lemmas.List.{drop-drop, length-map}
use lib.Lanes.{Each1, mask_l, top}
use lib.Bits.{and_self}
use lib.Count.{count_trailing_zeros}
use Rattle.sql_text.specs.Word.{is_digit}
use Rattle.io_row_reader.proofs.DigitLanes.{mask_is, run_from}

abbrev pub other : ℕ → Bool
other b = not (is_digit b)

same_marks : (p q : ℕ → Bool) (xs : List ℕ) → Each1 (Fits w8) xs → agree_below p q 256 ≡ true → map p xs ≡ map q xs
same_marks p q [] fit all = refl
same_marks p q (x ∷ xs) fit all = λ i. agree_below_at p q 256 x all fit.0.fits i ∷ same_marks p q xs fit.1 all i

pub marks_are : (f : ℕ → ℕ) (lanes marks : List ℕ) → length lanes ≡ 16 → Each1 (Fits w8) lanes → marks ≡ map f lanes → agree_below (λ x. top 7 (f x)) other 256 ≡ true
    → mask_l (map (top 7) marks) % 2 ^ 64 ≡ mask_l (map other lanes)
marks_are f lanes marks long fit is all = mask_is f lanes marks long is ∙ ap mask_l (same_marks (λ x. top 7 (f x)) other lanes fit all)

-- the same lanes with a digit in place of the first other byte
pub cleared : List ℕ → List ℕ
cleared [] = []
cleared (x ∷ xs) = cond (is_digit x) (x ∷ cleared xs) (48 ∷ xs)

cleared_mask : (b : Bool) (x : ℕ) (xs ys : List ℕ) → is_digit x ≡ b → mask_l (map other (cond b (x ∷ ys) (48 ∷ xs))) ≡ cond b (2 * mask_l (map other ys)) (2 * mask_l (map other xs))
cleared_mask true x xs ys e = ap (λ d. cond (not d) 1 0 + 2 * mask_l (map other ys)) e ∙ omega arith
cleared_mask false x xs ys e = omega arith

one_cleared : (b : Bool) (n r : ℕ) → (0 < n → bit_and n (n - 1) ≡ r) → 0 < cond (not b) 1 0 + 2 * n → bit_and (cond (not b) 1 0 + 2 * n) (cond (not b) 1 0 + 2 * n - 1) ≡ cond b (2 * r) (2 * n)
one_cleared true n r h some =
    let low : bit_and 0 1 ≡ 0 = refl in
    let left : 0 + 2 * n ≡ n * 2 ^ 1 + 0 = omega arith in
    let right : 0 + 2 * n - 1 ≡ (n - 1) * 2 ^ 1 + 1 = omega (arith, some) in
    (λ i. bit_and (left i) (right i)) ∙ and_block 1 n (n - 1) 0 1 (omega arith) (omega arith) ∙ omega (arith, h (omega (arith, some)), low)
one_cleared false n r h some =
    let low : bit_and 1 0 ≡ 0 = refl in
    let left : 1 + 2 * n ≡ n * 2 ^ 1 + 1 = omega arith in
    let right : 1 + 2 * n - 1 ≡ n * 2 ^ 1 + 0 = omega arith in
    (λ i. bit_and (left i) (right i)) ∙ and_block 1 n n 1 0 (omega arith) (omega arith) ∙ omega (arith, and_self n, low)

-- without its lowest bit, the mask is that of the lanes cleared so
lowest_cleared : (xs : List ℕ) → 0 < mask_l (map other xs) → bit_and (mask_l (map other xs)) (mask_l (map other xs) - 1) ≡ mask_l (map other (cleared xs))
unfolding cleared
lowest_cleared [] some = absurd (omega (arith, some))
lowest_cleared (x ∷ xs) some =
    one_cleared (is_digit x) (mask_l (map other xs)) (mask_l (map other (cleared xs))) (lowest_cleared xs) some ∙ sym (cleared_mask (is_digit x) x xs (cleared xs) refl)

cleared_run : (b : Bool) (x : ℕ) (xs ys : List ℕ) (k : ℕ) → is_digit x ≡ b → (k < length xs → prefix_len is_digit ys ≡ k + 1 + prefix_len is_digit (drop (k + 1) xs)) → cond b (1 + k) 0 < suc (length xs)
    → prefix_len is_digit (cond b (x ∷ ys) (48 ∷ xs)) ≡ cond b (1 + k) 0 + 1 + prefix_len is_digit (drop (cond b (1 + k) 0 + 1) (x ∷ xs))
cleared_run true x xs ys k e h lt =
    let more : 1 + k + 1 ≡ suc (k + 1) = omega arith in
    let same : prefix_len is_digit (drop (1 + k + 1) (x ∷ xs)) ≡ prefix_len is_digit (drop (k + 1) xs) = ap (λ n. prefix_len is_digit (drop n (x ∷ xs))) more in
    ap (λ d. cond d (1 + prefix_len is_digit ys) 0) e ∙ omega (arith, h (omega (arith, lt)), same)
cleared_run false x xs ys k e h lt = refl

run_cleared : (xs : List ℕ) → prefix_len is_digit xs < length xs → prefix_len is_digit (cleared xs) ≡ prefix_len is_digit xs + 1 + prefix_len is_digit (drop (prefix_len is_digit xs + 1) xs)
unfolding cleared
run_cleared [] lt = absurd (omega (arith, lt))
run_cleared (x ∷ xs) lt = cleared_run (is_digit x) x xs (cleared xs) (prefix_len is_digit xs) refl (run_cleared xs) lt

cleared_length : (b : Bool) (x : ℕ) (xs ys : List ℕ) → length ys ≡ length xs → length (cond b (x ∷ ys) (48 ∷ xs)) ≡ suc (length xs)
cleared_length true x xs ys e = ap suc e
cleared_length false x xs ys e = refl

length-cleared : (xs : List ℕ) → length (cleared xs) ≡ length xs
unfolding cleared
length-cleared [] = refl
length-cleared (x ∷ xs) = cleared_length (is_digit x) x xs (cleared xs) (length-cleared xs)

twice_not : (b : Bool) → not (not b) ≡ b
twice_not true = refl
twice_not false = refl

run_is : (xs : List ℕ) → prefix_len (λ x. not (other x)) xs ≡ prefix_len is_digit xs
run_is [] = refl
run_is (x ∷ xs) = ap (λ b. cond b (1 + prefix_len (λ y. not (other y)) xs) 0) (twice_not (is_digit x)) ∙ ap (λ n. cond (is_digit x) (1 + n) 0) (run_is xs)

stops_before : (b : Bool) (n k l : ℕ) → (0 < n → k < l) → 0 < cond (not b) 1 0 + 2 * n → cond b (1 + k) 0 < suc l
stops_before true n k l h some = omega (arith, h (omega (arith, some)))
stops_before false n k l h some = omega arith

stops : (xs : List ℕ) → 0 < mask_l (map other xs) → prefix_len is_digit xs < length xs
stops [] some = absurd (omega (arith, some))
stops (x ∷ xs) some = stops_before (is_digit x) (mask_l (map other xs)) (prefix_len is_digit xs) (length xs) (stops xs) some

-- where the two runs of digits end, by the mask and the mask without its lowest bit
pub record Ends (lanes : List ℕ) (marks later : ℕ) : Type 0 where
  pub first : count_trailing_zeros 64 marks ≡ prefix_len is_digit lanes
  pub second : count_trailing_zeros 64 later ≡ count_trailing_zeros 64 marks + 1 + prefix_len is_digit (drop (count_trailing_zeros 64 marks + 1) lanes)
  pub within : count_trailing_zeros 64 later < 16

-- where no byte is another
pub none_other : (xs : List ℕ) (m : ℕ) → length xs ≡ 16 → m ≡ mask_l (map other xs) → m ≡ 0 → 16 ≡ prefix_len is_digit xs
none_other xs m long is none = sym long ∙ sym (leading_from_mask_l other xs (sym is ∙ none)) ∙ run_is xs

-- where the first other byte is
pub trailing_is : (xs : List ℕ) (m : ℕ) → length xs ≡ 16 → m ≡ mask_l (map other xs) → 0 < m → count_trailing_zeros 64 m ≡ prefix_len is_digit xs
trailing_is xs m long is some = ap (count_trailing_zeros 64) is ∙ trailing_mask_l other 64 xs (omega (arith, long)) (omega (arith, is, some)) ∙ run_is xs

pub two_ends : (lanes : List ℕ) (marks : ℕ) → length lanes ≡ 16 → marks ≡ mask_l (map other lanes) → 0 < bit_and marks ((marks + 18446744073709551615) % 18446744073709551616)
    → Ends lanes marks (bit_and marks ((marks + 18446744073709551615) % 18446744073709551616))
two_ends lanes marks long is more =
    let some : 0 < marks = omega (arith, more, and_le_l marks ((marks + 18446744073709551615) % 18446744073709551616)) in
    let small : mask_l (map other lanes) < 2 ^ 16 = subst (λ n. mask_l (map other lanes) < 2 ^ n) (length-map lanes other ∙ long) (mask_l-lt (map other lanes)) in
    let less : (marks + 18446744073709551615) % 18446744073709551616 ≡ mask_l (map other lanes) - 1 = omega (arith, some, small, is) in
    let later : bit_and marks ((marks + 18446744073709551615) % 18446744073709551616) ≡ mask_l (map other (cleared lanes)) = (λ i. bit_and (is i) (less i)) ∙ lowest_cleared lanes (omega (arith, is, some)) in
    let first = trailing_is lanes marks long is some in
    let second = trailing_is (cleared lanes) _ (length-cleared lanes ∙ long) later more in
    let run = run_cleared lanes (stops lanes (omega (arith, is, some))) in
    record {
      first = first;
      second = second ∙ run ∙ ap (λ n. n + 1 + prefix_len is_digit (drop (n + 1) lanes)) (sym first);
      within = omega (arith, second, stops (cleared lanes) (omega (arith, later, more)), length-cleared lanes, long);
    }

-- behind the first other byte, the lanes cleared so are as they were
cleared_behind : (b : Bool) (x : ℕ) (xs ys : List ℕ) (k : ℕ) → drop (k + 1) ys ≡ drop (k + 1) xs → drop (cond b (1 + k) 0 + 1) (cond b (x ∷ ys) (48 ∷ xs)) ≡ drop (cond b (1 + k) 0 + 1) (x ∷ xs)
cleared_behind true x xs ys k h =
    let more : 1 + k + 1 ≡ suc (k + 1) = omega arith in
    ap (λ n. drop n (x ∷ ys)) more ∙ h ∙ sym (ap (λ n. drop n (x ∷ xs)) more)
cleared_behind false x xs ys k h = refl

behind_cleared : (xs : List ℕ) → drop (prefix_len is_digit xs + 1) (cleared xs) ≡ drop (prefix_len is_digit xs + 1) xs
unfolding cleared
behind_cleared [] = refl
behind_cleared (x ∷ xs) = cleared_behind (is_digit x) x xs (cleared xs) (prefix_len is_digit xs) (behind_cleared xs)

-- what is alike behind a place is alike behind a later one
dropped_on : (k n : ℕ) (xs ys : List ℕ) → k ≤ n → drop k xs ≡ drop k ys → drop n xs ≡ drop n ys
dropped_on k n xs ys le h =
    let there : k + (n - k) ≡ n = omega (arith, le) in
    sym (drop-drop (n - k) k xs ∙ ap (λ m. drop m xs) there) ∙ ap (drop (n - k)) h ∙ drop-drop (n - k) k ys ∙ ap (λ m. drop m ys) there

-- the marks of sixteen bytes, less those before a place, before which all are digits or were cleared
pub record MarksFrom (lanes : List ℕ) (place marks : ℕ) : Type 0 where
  pub left : List ℕ
  pub long : length left ≡ 16
  pub are : marks ≡ mask_l (map other left)
  pub rest : drop place left ≡ drop place lanes
  pub digits : place ≤ prefix_len is_digit left

pub marks_begin : (lanes : List ℕ) (marks : ℕ) → length lanes ≡ 16 → marks ≡ mask_l (map other lanes) → MarksFrom lanes 0 marks
marks_begin lanes marks long are = record { left = lanes; long = long; are = are; rest = refl; digits = omega arith }

-- where the digits from the place on end
pub record IsMarked (lanes : List ℕ) (place end : ℕ) : Type 0 where
  pub run : end ≡ place + prefix_len is_digit (drop place lanes)
  pub within : end < 16

pub mark_next : (lanes : List ℕ) (place marks : ℕ) → MarksFrom lanes place marks → 0 < marks → IsMarked lanes place (count_trailing_zeros 64 marks)
mark_next lanes place marks h some =
    let first = trailing_is h.left marks h.long h.are some in
    record {
      run = first ∙ run_from is_digit place h.left h.digits ∙ ap (λ (l : List ℕ). place + prefix_len is_digit l) h.rest;
      within = omega (arith, first, stops h.left (omega (arith, h.are, some)), h.long);
    }

pub marks_more : (lanes : List ℕ) (place marks : ℕ) → MarksFrom lanes place marks → 0 < marks
    → MarksFrom lanes (count_trailing_zeros 64 marks + 1) (bit_and marks ((marks + 18446744073709551615) % 18446744073709551616))
marks_more lanes place marks h some =
    let xs = h.left in
    let first = trailing_is xs marks h.long h.are some in
    let small : mask_l (map other xs) < 2 ^ 16 = subst (λ n. mask_l (map other xs) < 2 ^ n) (length-map xs other ∙ h.long) (mask_l-lt (map other xs)) in
    let less : (marks + 18446744073709551615) % 18446744073709551616 ≡ mask_l (map other xs) - 1 = omega (arith, some, small, h.are) in
    let run = run_cleared xs (stops xs (omega (arith, h.are, some))) in
    let behind : drop (count_trailing_zeros 64 marks + 1) (cleared xs) ≡ drop (count_trailing_zeros 64 marks + 1) xs = subst (λ n. drop (n + 1) (cleared xs) ≡ drop (n + 1) xs) (sym first) (behind_cleared xs) in
    record {
      left = cleared xs;
      long = length-cleared xs ∙ h.long;
      are = (λ i. bit_and (h.are i) (less i)) ∙ lowest_cleared xs (omega (arith, h.are, some));
      rest = behind ∙ dropped_on place (count_trailing_zeros 64 marks + 1) xs lanes (omega (arith, first, h.digits)) h.rest;
      digits = omega (arith, first, run);
    }
