-- Fields at a place of a text whose last byte is LF.
use Rattle.std.proofs.Common.{◌≡◌, ℕ, zero, suc, ℤ, pos, Option, ◌+◌, ◌-◌, ◌*◌, ◌^◌, ◌<◌, ◌≤◌, true, false, List, [], ◌∷◌, ◌++◌, length, take, drop, get_or, append-nil, append_assoc, length-append, length-drop, Some, None, refl, ap, sym, ◌∙◌, subst, inl, inr, arith}
use Rattle.std.specs.Prelude.{neg_ℤ}
use Rattle.std.specs.List.{list_all, prefix_len, slice_range, slice_split}
use Rattle.std.specs.Option.{option_map}
use Rattle.std.proofs.Math.Seq.{take-append_seam, drop-append_seam}
use Rattle.std.proofs.lemmas.Bool.Decides.{nat_tests}
use Rattle.std.proofs.lemmas.List.{drop-drop, get_or-drop, take_more}
use Rattle.std.proofs.lemmas.List.Sums.{prefix_len-drop_yes, prefix_len-drop_no}
use Rattle.std.proofs.lemmas.List.Folds.{list_all-append}
use Rattle.sql_text.specs.Value.{amount, integer_len, is_integer, value_of}
use Rattle.sql_text.specs.Word.{is_digit}
use Rattle.sql_text.proofs.Fronts.{StopsFor, and_both, all_weaker}
use Rattle.sql_text.proofs.LeadingValue.{flag, integer_front, no_integer_no_value, small_more, zero_add}
use Rattle.sql_text.proofs.Trimmed.{is_solid, leading_solid}
use Rattle.sql_catalog.specs.Rows.{is_comma, values_of}
use Rattle.io_row_reader.specs.Plain.{AddsInteger, IsPlain, is_plain_byte}
use Rattle.io_row_reader.specs.Ahead.{AddsAt, AreFields, FieldsTo, IsEnded, ReadsFront}
use Rattle.io_row_reader.proofs.PlainFields.{IsFieldBefore, amount_next, begins_with, counted_more, field_last, field_then, negative_integer, short_integer, solid_plain, told_more, whole_values, within_18}
use Rattle.io_row_reader.proofs.NamesAhead.{inside}

-- Digits from a place on.

-- all bytes so far are digits, and this is their amount
pub record HasDigits (text : List ℕ) (start len kept : ℕ) : Type 0 where
  pub digits : prefix_len is_digit (drop start text) ≡ len + prefix_len is_digit (drop len (drop start text))
  pub within : start + len < length text
  pub amount : len ≤ 19 → kept ≡ amount (take len (drop start text))
  pub small : len ≤ 19 → kept < 10 ^ len

digit_no_feed : (b : ℕ) → is_digit b ≡ true → b ≡ 10 → ⊥
digit_no_feed b h e = grind (arith, nat_tests)

pub digit_more : (text : List ℕ) (start len kept d next : ℕ) → IsEnded text → HasDigits text start len kept → (is_digit (get_or text (start + len) 0) ≡ true) × (d ≡ get_or text (start + len) 0 - 48) → d ≤ 9
    → (kept < 10 ^ 18 → d ≤ 9 → next ≡ kept * 10 + d) → HasDigits text start (len + 1) next
digit_more text start len kept d next ended h is few added =
    let rest = drop start text in
    let same : get_or rest len 0 ≡ get_or text (start + len) 0 = get_or-drop start text len 0 in
    let room : len < length rest = omega (arith, h.within, length-drop start text) in
    let digit : is_digit (get_or rest len 0) ≡ true = ap is_digit same ∙ is.0 in
    let here : d ≡ get_or rest len 0 - 48 = is.1 ∙ ap (λ b. b - 48) (sym same) in
    let sum : len + 1 ≤ 19 → next ≡ kept * 10 + d = λ l. added (within_18 kept len (h.small (omega (arith, l))) (omega (arith, l))) few in
    record {
      digits = omega (arith, h.digits, prefix_len-drop_yes is_digit rest len 0 room digit);
      within = omega (arith, inside text (start + len) ended h.within (digit_no_feed (get_or text (start + len) 0) is.0));
      amount = λ l. sum l ∙ amount_next rest len kept d room here (h.amount (omega (arith, l)));
      small = λ l. subst (λ n. n < 10 ^ (len + 1)) (sym (sum l)) (small_more kept d len (h.small (omega (arith, l))) (omega (arith, few)));
    }

pub digits_end : (text : List ℕ) (start len kept : ℕ) → HasDigits text start len kept → is_digit (get_or text (start + len) 0) ≡ false → len ≡ prefix_len is_digit (drop start text)
digits_end text start len kept h other =
    let rest = drop start text in
    let room : len < length rest = omega (arith, h.within, length-drop start text) in
    omega (arith, h.digits, prefix_len-drop_no is_digit rest len 0 room (ap is_digit (get_or-drop start text len 0) ∙ other))

-- only digits stand between two places
pub record DigitsTo (text : List ℕ) (start place : ℕ) : Type 0 where
  pub count : start + prefix_len is_digit (drop start text) ≡ place + prefix_len is_digit (drop place text)
  pub within : place < length text

-- An integer at a place.

pub short_at : (text : List ℕ) (start len kept : ℕ) (old new : List ℤ) → len ≡ prefix_len is_digit (drop start text) → (0 < len) × (len ≤ 19) × (kept < 2 ^ 63) → start + len < length text
    → (len ≤ 19 → kept ≡ amount (take len (drop start text))) → new ≡ old ++ pos kept ∷ [] → AddsAt text start (start + len) old new
short_at text start len kept old new is few room all pushed = record {
  len = len;
  size = refl;
  some = few.0;
  near = omega (arith, few.1);
  within = room;
  adds = short_integer (drop start text) len kept old new is few.0 (all few.1) few.2 pushed;
}

pub negative_at : (text : List ℕ) (start len kept : ℕ) (old new : List ℤ) → start < length text → get_or text start 0 ≡ 45 → len ≡ prefix_len is_digit (drop (start + 1) text) → (0 < len) × (len ≤ 19) × (kept < 2 ^ 63)
    → start + 1 + len < length text → (len ≤ 19 → kept ≡ amount (take len (drop (start + 1) text))) → new ≡ old ++ neg_ℤ (pos kept) ∷ [] → AddsAt text start (start + 1 + len) old new
negative_at text start len kept old new here minus is few room all pushed = record {
  len = 1 + len;
  size = omega arith;
  some = omega arith;
  near = omega (arith, few.1);
  within = room;
  adds = negative_integer (drop start text) (drop (start + 1) text) len kept old new (begins_with start 45 text here minus) is few.0 (all few.1) few.2 pushed;
}

-- Fields so far.

same_values : (o : Option (List ℤ)) → o ≡ option_map (λ vs. [] ++ vs) o
same_values None = refl
same_values (Some vs) = refl

pub reads_none : ReadsFront [] []
reads_none = record { told = λ rest. same_values (values_of (slice_split is_comma rest)); count = λ rest. zero_add (length (slice_split is_comma rest)); plain = refl }

-- the integer at the front of a text stays so where something else stands behind it
pub record Stays (text : List ℕ) (len : ℕ) (v : ℤ) (rest : List ℕ) : Type 0 where
  pub value : value_of (take (integer_len (take len text ++ rest)) (take len text ++ rest)) ≡ Some v
  pub behind : drop (integer_len (take len text ++ rest)) (take len text ++ rest) ≡ rest

no_some : (v : ℤ) → None ≡ Some v → ⊥
no_some v e = cc

pub stays : (text : List ℕ) (len : ℕ) (v : ℤ) (rest : List ℕ) → len ≡ integer_len text → value_of (take (integer_len text) text) ≡ Some v → StopsFor is_digit rest → Stays text len v rest
stays text len v rest size is stops =
    let front = take len text in
    let value : value_of front ≡ Some v = ap (λ n. value_of (take n text)) size ∙ is in
    let whole : is_integer front ≡ true = elim (flag (is_integer front)) [
      | inl yes' ↦ yes'
      | inr none ↦ absurd (no_some v (sym (no_integer_no_value front none) ∙ value))
    ] in
    let count : integer_len (front ++ rest) ≡ length front = integer_front front rest whole stops in
    record {
      value = ap (λ n. value_of (take n (front ++ rest))) count ∙ ap value_of (take-append_seam front rest) ∙ value;
      behind = ap (λ n. drop n (front ++ rest)) count ∙ drop-append_seam front rest;
    }

integer_plain : (text : List ℕ) (len : ℕ) → len ≡ integer_len text → IsPlain (take len text)
integer_plain text len size =
    ap (λ n. list_all is_plain_byte (take n text)) size ∙ all_weaker is_solid is_plain_byte solid_plain (take (integer_len text) text) (leading_solid text)

pub plain_both : (front rest : List ℕ) → IsPlain front → IsPlain rest → IsPlain (front ++ rest)
plain_both front rest p q = list_all-append is_plain_byte front rest ∙ and_both (list_all is_plain_byte front) (list_all is_plain_byte rest) p q

comma_stops : (rest : List ℕ) → StopsFor is_digit (44 ∷ rest)
comma_stops rest = refl

-- one more integer and a comma
pub reads_more : (front text : List ℕ) (len : ℕ) (row new : List ℤ) → ReadsFront front row → AddsInteger text len row new → ReadsFront (front ++ (take len text ++ 44 ∷ [])) new
reads_more front text len row new h a = subst (λ (xs : List ℤ). ReadsFront (front ++ (take len text ++ 44 ∷ [])) xs) (sym a.pushed) (record {
  told = λ rest.
      let t = digits ++ 44 ∷ rest in
      ap (λ (x : List ℕ). values_of (slice_split is_comma x)) (regroup rest)
      ∙ told_more (front ++ t) t a.value (slice_split is_comma rest) row (before rest) (h.told t);
  count = λ rest.
      let t = digits ++ 44 ∷ rest in
      counted_more (front ++ t) t a.value (slice_split is_comma rest) row (before rest) (h.count t)
      ∙ ap (λ (x : List ℕ). length (slice_split is_comma x)) (sym (regroup rest));
  plain = plain_both front (digits ++ 44 ∷ []) h.plain (plain_both digits (44 ∷ []) (integer_plain text len a.size) refl);
})
  where
    digits : List ℕ
    digits = take len text

    regroup : (rest : List ℕ) → (front ++ (take len text ++ 44 ∷ [])) ++ rest ≡ front ++ (take len text ++ 44 ∷ rest)
    regroup rest = append_assoc front (take len text ++ 44 ∷ []) rest ∙ ap (λ (l : List ℕ). front ++ l) (append_assoc (take len text) (44 ∷ []) rest)

    before : (rest : List ℕ) → IsFieldBefore (take len text ++ 44 ∷ rest) a.value (slice_split is_comma rest)
    before rest =
        let s = stays text len a.value (44 ∷ rest) a.size a.is (comma_stops rest) in
        field_then (take len text ++ 44 ∷ rest) rest a.value s.value s.behind

-- the last integer
pub record ReadsAll (fields : List ℕ) (row : List ℤ) : Type 0 where
  pub values : values_of (slice_split is_comma fields) ≡ Some row
  pub count : length (slice_split is_comma fields) ≡ length row
  pub plain : IsPlain fields

pub reads_last : (front text : List ℕ) (len : ℕ) (row new : List ℤ) → ReadsFront front row → AddsInteger text len row new → ReadsAll (front ++ take len text) new
reads_last front text len row new h a = subst (λ (xs : List ℤ). ReadsAll (front ++ take len text) xs) (sym a.pushed)
    (let digits = take len text in
    let s = stays text len a.value [] a.size a.is tt in
    let bare : digits ++ [] ≡ digits = append-nil digits in
    let last : IsFieldBefore digits a.value [] = subst (λ (t : List ℕ). IsFieldBefore t a.value []) bare (field_last (digits ++ []) a.value s.value s.behind) in
    let count = counted_more (front ++ digits) digits a.value [] row last (h.count digits) in
    record {
      values = whole_values (front ++ digits) (row ++ a.value ∷ []) (told_more (front ++ digits) digits a.value [] row last (h.told digits));
      count = omega (arith, count);
      plain = plain_both front digits h.plain (integer_plain text len a.size);
    })

-- The part of a text between two places.

pub take_sum : (k m n : ℕ) (xs : List ℕ) → n ≡ k + m → take n xs ≡ take k xs ++ take m (drop k xs)
take_sum zero m n xs e = ap (λ i. take i xs) (e ∙ zero_add m)
take_sum (suc k) m zero xs e = absurd (omega (arith, e))
take_sum (suc k) zero (suc n) [] e = refl
take_sum (suc k) (suc m) (suc n) [] e = refl
take_sum (suc k) m (suc n) (x ∷ xs) e = ap (λ (l : List ℕ). x ∷ l) (take_sum k m n xs (omega (arith, e)))

pub range_more : (text : List ℕ) (start place m : ℕ) → start ≤ place → slice_range text start (place + m) ≡ slice_range text start place ++ take m (drop place text)
range_more text start place m order =
    let k = place - start in
    let there : start + k ≡ place = omega (arith, order) in
    take_sum k m (place + m - start) (drop start text) (omega (arith, order))
    ∙ ap (λ (l : List ℕ). take k (drop start text) ++ take m l) (drop-drop k start text ∙ ap (λ n. drop n text) there)

pub range_empty : (text : List ℕ) (start : ℕ) → slice_range text start start ≡ []
range_empty text start =
    let none : start - start ≡ 0 = omega arith in
    ap (λ n. take n (drop start text)) none

pub fields_begin : (text : List ℕ) (start : ℕ) (row : List ℤ) → start < length text → row ≡ [] → FieldsTo text start start row
fields_begin text start row room empty = record {
  front = subst (λ (r : List ℤ). ReadsFront (slice_range text start start) r) (sym empty) (subst (λ (f : List ℕ). ReadsFront f []) (sym (range_empty text start)) reads_none);
  order = omega arith;
  within = room;
  near = omega arith;
}

pub fields_more : (text : List ℕ) (start place end : ℕ) (row new : List ℤ) → IsEnded text → FieldsTo text start place row → AddsAt text place end row new → get_or text end 0 ≡ 44 → FieldsTo text start (end + 1) new
fields_more text start place end row new ended h a comma =
    let rest = drop place text in
    let there : end + 1 ≡ place + (a.len + 1) = omega (arith, a.size) in
    let room : a.len < length rest = omega (arith, a.size, a.within, length-drop place text) in
    let byte : get_or rest a.len 0 ≡ 44 = get_or-drop place text a.len 0 ∙ ap (λ n. get_or text n 0) (sym a.size) ∙ comma in
    let piece : take (a.len + 1) rest ≡ take a.len rest ++ 44 ∷ [] = take_more rest a.len 0 room ∙ ap (λ b. take a.len rest ++ b ∷ []) byte in
    let whole : slice_range text start (end + 1) ≡ slice_range text start place ++ (take a.len rest ++ 44 ∷ []) =
    ap (slice_range text start) there ∙ range_more text start place (a.len + 1) h.order ∙ ap (λ (l : List ℕ). slice_range text start place ++ l) piece in
    record {
      front = subst (λ (f : List ℕ). ReadsFront f new) (sym whole) (reads_more (slice_range text start place) rest a.len row new h.front a.adds);
      order = omega (arith, h.order, a.size);
      within = inside text end ended a.within (λ f. absurd (omega (arith, comma, f)));
      near = omega (arith, h.near, a.size, a.near, ap length a.adds.pushed, length-append row (a.adds.value ∷ []));
    }

pub fields_last : (text : List ℕ) (start place end : ℕ) (row new : List ℤ) → FieldsTo text start place row → AddsAt text place end row new → AreFields text start end new
fields_last text start place end row new h a =
    let rest = drop place text in
    let whole : slice_range text start end ≡ slice_range text start place ++ take a.len rest = ap (slice_range text start) a.size ∙ range_more text start place a.len h.order in
    let all = subst (λ (f : List ℕ). ReadsAll f new) (sym whole) (reads_last (slice_range text start place) rest a.len row new h.front a.adds) in
    record {
      values = all.values;
      count = all.count;
      plain = all.plain;
      order = omega (arith, h.order, a.size);
      near = omega (arith, h.near, a.size, a.near, ap length a.adds.pushed, length-append row (a.adds.value ∷ []));
      within = a.within;
    }

pub behind_comma : (text : List ℕ) (place end : ℕ) (row new : List ℤ) → IsEnded text → AddsAt text place end row new → get_or text end 0 ≡ 44 → end + 1 < length text
behind_comma text place end row new ended a comma = inside text end ended a.within (λ f. absurd (omega (arith, comma, f)))
