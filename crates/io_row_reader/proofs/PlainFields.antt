-- Fields without blanks.
use Rattle.std.proofs.Common.{◌≡◌, ℕ, to_z, of_z, w64, ◌-ℤ◌, zero, suc, ◌+◌, ◌-◌, ◌<◌, ◌≤◌, Bool, true, false, cond, ◌||◌, ◌==◌, List, [], ◌∷◌, ◌++◌, length, take, drop, get_or, append-nil, append_assoc, lt-ltb, lit<, ◌*◌, nat_lt, pos, ◌^◌, Some, None, Option, ℤ, refl, ap, sym, ◌∙◌, subst, arith}
use Rattle.std.specs.Prelude.{neg_ℤ}
use Rattle.std.proofs.lemmas.Int.{ints, to_z_pos}
use Rattle.std.specs.List.{prefix_len, slice_split, before_first}
use Rattle.std.proofs.Math.Nat.{pow-le-pow_right}
use Rattle.std.proofs.lemmas.List.{drop-drop, take_more, length-append}
use Rattle.std.proofs.lemmas.Bool.Decides.{nat_tests}
use Rattle.sql_text.specs.Blank.{is_blank, without_blanks_before, trimmed}
use Rattle.sql_text.specs.Word.{is_digit}
use Rattle.sql_text.specs.Value.{amount, amount_after, integer_len, is_negative, sign_len, signed, value_of}
use Rattle.sql_text.proofs.LeadingValue.{value_behind, zero_add}
use Rattle.sql_text.proofs.ParsedValue.{fits_neg}
use Rattle.sql_text.proofs.Trimmed.{is_solid, behind_integer}
use Rattle.std.specs.Option.{option_and_then, option_map}
use Rattle.std.specs.declared.result.Result.TheVariants.{Ok, Err}
use Rattle.sql_catalog.specs.Rows.{is_comma, entry, entry_of, row_with, values_of}
use Rattle.sql_catalog.specs.Streams.{Shape, KeepsDomains, lie_within, shape_at}
use Rattle.sql_catalog.proofs.ColumnDomains.{each_within}
use Rattle.sql_catalog.specs.declared.column.ColumnDef.{ColumnDef}
use Rattle.sql_catalog.specs.declared.row_error.RowError.TheVariants.{Arity, Domain}
use Rattle.sql_catalog.proofs.Fields.{field_parts, field_value}
use Rattle.io_row_reader.specs.Plain.{AddsInteger, is_plain_byte}

pub solid_plain : (b : ℕ) → is_solid b ≡ true → is_plain_byte b ≡ true
solid_plain b h = grind (arith, nat_tests)

pub clash : true ≡ false → ⊥
clash p = cc

pub no_value : {v : ℤ} → value_of [] ≡ Some v → ⊥
unfolding value_of
no_value e = cc

blank_no_integer : (b : ℕ) (bs : List ℕ) → is_blank b ≡ true → integer_len (b ∷ bs) ≡ 0
blank_no_integer b bs h = by (b == 43) refl (b == 45) refl (is_digit b) refl
  where
    by : (p : Bool) → (b == 43) ≡ p → (m : Bool) → (b == 45) ≡ m → (d : Bool) → is_digit b ≡ d → integer_len (b ∷ bs) ≡ 0
    by true e m f d g = absurd (grind (arith, nat_tests))
    by false e true f d g = absurd (grind (arith, nat_tests))
    by false e false f true g = absurd (grind (arith, nat_tests))
    by false e false f false g =
        ap (λ t. cond (t || (b == 43)) 1 0 + prefix_len is_digit (drop (cond (t || (b == 43)) 1 0) (b ∷ bs))) f
        ∙ ap (λ t. cond t 1 0 + prefix_len is_digit (drop (cond t 1 0) (b ∷ bs))) e
        ∙ zero_add (prefix_len is_digit (b ∷ bs))
        ∙ ap (λ t. cond t (1 + prefix_len is_digit bs) 0) g

-- no blank stands before an integer that is read at the front
no_blank : (text : List ℕ) (v : ℤ) → value_of (take (integer_len text) text) ≡ Some v → without_blanks_before text ≡ text
no_blank [] v e = refl
no_blank (b ∷ bs) v e = by (is_blank b) refl
  where
    by : (o : Bool) → is_blank b ≡ o → drop (cond (is_blank b) (1 + prefix_len is_blank bs) 0) (b ∷ bs) ≡ b ∷ bs
    by true h = absurd (no_value (ap value_of (sym (ap (λ n. take n (b ∷ bs)) (blank_no_integer b bs h))) ∙ e))
    by false h = ap (λ o. drop (cond o (1 + prefix_len is_blank bs) 0) (b ∷ bs)) h

-- the first field of a text is an integer with a comma behind it, or nothing: the value and the parts of the text
pub record IsFieldBefore (text : List ℕ) (v : ℤ) (others : List (List ℕ)) : Type 0 where
  pub parts : slice_split is_comma text ≡ before_first is_comma text ∷ others
  pub value : value_of (trimmed (before_first is_comma text)) ≡ Some v

field_before : (text left : List ℕ) (v : ℤ) (others : List (List ℕ)) → value_of (take (integer_len text) text) ≡ Some v
    → slice_split is_comma (without_blanks_before (drop (integer_len text) text)) ≡ left ∷ others → left ≡ [] → IsFieldBefore text v others
field_before text left v others e parts empty =
    let bare : without_blanks_before text ≡ text = no_blank text v e in
    let here : slice_split is_comma (behind_integer text) ≡ left ∷ others = ap (λ (t : List ℕ). slice_split is_comma (without_blanks_before (drop (integer_len t) t))) bare ∙ parts in
    record {
      parts = field_parts text left others here;
      value = sym (field_value text left others here empty) ∙ ap (λ (t : List ℕ). value_of (take (integer_len t) t)) bare ∙ e;
    }

pub field_then : (text others : List ℕ) (v : ℤ) → value_of (take (integer_len text) text) ≡ Some v → drop (integer_len text) text ≡ 44 ∷ others
    → IsFieldBefore text v (slice_split is_comma others)
field_then text others v e behind = field_before text [] v (slice_split is_comma others) e (ap (λ t. slice_split is_comma (without_blanks_before t)) behind) refl

pub field_last : (text : List ℕ) (v : ℤ) → value_of (take (integer_len text) text) ≡ Some v → drop (integer_len text) text ≡ [] → IsFieldBefore text v []
field_last text v e behind = field_before text [] v [] e (ap (λ t. slice_split is_comma (without_blanks_before t)) behind) refl

-- the values of a text, where those of what is left of it begin with this one
pub told_more : (fields rest : List ℕ) (v : ℤ) (others : List (List ℕ)) (row : List ℤ) → IsFieldBefore rest v others
    → values_of (slice_split is_comma fields) ≡ option_map (λ vs. row ++ vs) (values_of (slice_split is_comma rest))
    → values_of (slice_split is_comma fields) ≡ option_map (λ vs. (row ++ v ∷ []) ++ vs) (values_of others)
told_more fields rest v others row f told =
    told
    ∙ ap (λ p. option_map (λ vs. row ++ vs) (values_of p)) f.parts
    ∙ ap (λ o. option_map (λ vs. row ++ vs) (option_and_then (λ x. option_map (λ vs. x ∷ vs) (values_of others)) o)) f.value
    ∙ regroup (values_of others)
  where
    regroup : (o : Option (List ℤ)) → option_map (λ vs. row ++ vs) (option_map (λ vs. v ∷ vs) o) ≡ option_map (λ vs. (row ++ v ∷ []) ++ vs) o
    regroup None = refl
    regroup (Some vs) = ap Some (sym (append_assoc row (v ∷ []) vs))

pub counted_more : (fields rest : List ℕ) (v : ℤ) (others : List (List ℕ)) (row : List ℤ) → IsFieldBefore rest v others
    → length row + length (slice_split is_comma rest) ≡ length (slice_split is_comma fields) → length (row ++ v ∷ []) + length others ≡ length (slice_split is_comma fields)
counted_more fields rest v others row f count = omega (arith, count, ap length f.parts, length-append row (v ∷ []))

same : (n m : ℕ) → n ≡ m → (n == m) ≡ true
same n m h = grind (arith, nat_tests)

-- the values, where nothing is left
pub whole_values : (fields : List ℕ) (row : List ℤ) → values_of (slice_split is_comma fields) ≡ option_map (λ vs. row ++ vs) (values_of []) → values_of (slice_split is_comma fields) ≡ Some row
whole_values fields row told = told ∙ ap Some (append-nil row)

-- as many values as there are columns, each in its domain, are a row
pub whole_row : (stream : ℕ) (columns : List ColumnDef) (fields : List (List ℕ)) (row : List ℤ) → values_of fields ≡ Some row → length fields ≡ length columns → lie_within columns row ≡ true
    → row_with stream columns fields ≡ Ok (entry stream row)
whole_row stream columns fields row told count within =
    ap (λ b. cond b (entry_of stream columns (values_of fields)) (Err Arity)) (same (length fields) (length columns) count)
    ∙ ap (entry_of stream columns) told
    ∙ ap (λ b. cond b (Ok (entry stream row)) (Err Domain)) within

-- values that lie in the domains of the columns of a stream
pub domains_kept : (streams : List Shape) (stream : ℕ) (values : List ℤ) → lie_within (shape_at streams stream).columns values ≡ true → KeepsDomains streams stream values
domains_kept streams stream values within column = each_within (shape_at streams stream).columns values within column

digit_no_sign : (b : ℕ) → is_digit b ≡ true → ((b == 45) ≡ false) × ((b == 43) ≡ false)
digit_no_sign b h = (grind (arith, nat_tests), grind (arith, nat_tests))

abbrev one_if : Bool → ℕ
one_if t = cond t 1 0

-- a text that begins with a digit has no sign
unsigned : (text : List ℕ) → 0 < prefix_len is_digit text → (is_negative text ≡ false) × (sign_len text ≡ 0)
unsigned [] h = absurd (omega (arith, h))
unsigned (b ∷ bs) h = by (is_digit b) refl
  where
    by : (d : Bool) → is_digit b ≡ d → ((b == 45) ≡ false) × (one_if ((b == 45) || (b == 43)) ≡ 0)
    by true e = let n = digit_no_sign b e in (n.0, ap (λ t. one_if (t || (b == 43))) n.0 ∙ ap one_if n.1)
    by false e = let none_here : prefix_len is_digit (b ∷ bs) ≡ 0 = ap (λ t. cond t (1 + prefix_len is_digit bs) 0) e in absurd (omega (arith, h, none_here))

fits : (n : ℕ) → n < 2 ^ 63 → nat_lt n (2 ^ 63) ≡ true
fits n h = lt-ltb _ _ (omega (arith, h))

-- the integer that digits alone write
pub short_integer : (text : List ℕ) (len amounts : ℕ) (old new : List ℤ) → len ≡ prefix_len is_digit text → 0 < len → amounts ≡ amount (take len text) → amounts < 2 ^ 63
    → new ≡ old ++ pos amounts ∷ [] → AddsInteger text len old new
short_integer text len amounts old new is some all small pushed =
    let k = prefix_len is_digit text in
    let sign = unsigned text (omega (arith, is, some)) in
    let bare : text ≡ drop (sign_len text) text = sym (ap (λ s. drop s text) sign.1) in
    let kept : amounts ≡ amount (take k text) = all ∙ ap (λ n. amount (take n text)) is in
    record {
      value = pos amounts;
      size = is ∙ sym (ap (λ s. s + prefix_len is_digit (drop s text)) sign.1 ∙ zero_add k);
      is = sym (value_behind text text false (sym sign.0) bare)
          ∙ ap (λ t. cond t (signed false (amount (take k text))) None) (lt-ltb _ _ (omega (arith, is, some)))
          ∙ ap (signed false) (sym kept)
          ∙ ap (λ t. cond t (Some (pos amounts)) None) (fits amounts small);
      pushed = pushed;
    }

-- the byte at a place, and what stands behind it
first_byte : (k b : ℕ) (text : List ℕ) → k < length text → get_or text k 0 ≡ b → drop k text ≡ b ∷ drop 1 (drop k text)
first_byte zero b [] room e = absurd (omega (arith, room))
first_byte (suc k) b [] room e = absurd (omega (arith, room))
first_byte zero b (x ∷ xs) room e = ap (λ y. y ∷ xs) e
first_byte (suc k) b (x ∷ xs) room e = first_byte k b xs (omega (arith, room)) e

pub begins_with : (k b : ℕ) (text : List ℕ) → k < length text → get_or text k 0 ≡ b → drop k text ≡ b ∷ drop (k + 1) text
begins_with k b text room e = first_byte k b text room e ∙ ap (λ (rest : List ℕ). b ∷ rest) (drop-drop 1 k text)

-- the integer that a minus and digits write
pub negative_integer : (text digits : List ℕ) (len amounts : ℕ) (old new : List ℤ) → text ≡ 45 ∷ digits → len ≡ prefix_len is_digit digits → 0 < len → amounts ≡ amount (take len digits) → amounts < 2 ^ 63
    → new ≡ old ++ neg_ℤ (pos amounts) ∷ [] → AddsInteger text (1 + len) old new
negative_integer text digits len amounts old new begins is some all small pushed =
    let k = prefix_len is_digit digits in
    let kept : amounts ≡ amount (take k digits) = all ∙ ap (λ n. amount (take n digits)) is in
    subst (λ (t : List ℕ). AddsInteger t (1 + len) old new) (sym begins) (record {
      value = neg_ℤ (pos amounts);
      size = ap (λ n. 1 + n) is;
      is = sym (value_behind (45 ∷ digits) digits true refl refl)
          ∙ ap (λ t. cond t (signed true (amount (take k digits))) None) (lt-ltb _ _ (omega (arith, is, some)))
          ∙ ap (signed true) (sym kept)
          ∙ ap (λ t. cond t (Some (neg_ℤ (pos amounts))) None) (fits_neg amounts ∙ lt-ltb _ _ (omega (arith, small)));
      pushed = pushed;
    })

-- an amount of less than 64 bits that was added as an integer
pub amount_pushed : (n : ℕ) (old new : List ℤ) → n < 2 ^ 63 → new ≡ old ++ to_z w64 n ∷ [] → new ≡ old ++ pos n ∷ []
amount_pushed n old new small pushed = pushed ∙ ap (λ v. old ++ v ∷ []) (to_z_pos w64 n small)

-- the opposite of such an amount
pub opposite_pushed : (n : ℕ) (old new : List ℤ) → n < 2 ^ 63 → new ≡ old ++ to_z w64 (of_z w64 (pos 0 -ℤ to_z w64 n)) ∷ [] → new ≡ old ++ neg_ℤ (pos n) ∷ []
opposite_pushed n old new small pushed =
    let is : to_z w64 (of_z w64 (pos 0 -ℤ to_z w64 n)) ≡ neg_ℤ (pos n) = omega (arith, ints, small) in
    pushed ∙ ap (λ v. old ++ v ∷ []) is

amount_push : (start : ℕ) (ds : List ℕ) (d : ℕ) → amount_after start (ds ++ d ∷ []) ≡ amount_after start ds * 10 + (d - 48)
amount_push start [] d = refl
amount_push start (x ∷ ds) d = amount_push (start * 10 + (x - 48)) ds d

-- the amount with one digit more
pub amount_next : (text : List ℕ) (i kept d : ℕ) → i < length text → d ≡ get_or text i 0 - 48 → kept ≡ amount (take i text) → kept * 10 + d ≡ amount (take (i + 1) text)
amount_next text i kept d room is all =
    let more : amount (take (i + 1) text) ≡ amount (take i text) * 10 + (get_or text i 0 - 48) = ap amount (take_more text i 0 room) ∙ amount_push 0 (take i text) (get_or text i 0) in
    omega (arith, more, is, all)

-- an amount of at most 18 digits
pub within_18 : (kept i : ℕ) → kept < 10 ^ i → i ≤ 18 → kept < 10 ^ 18
within_18 kept i h few = let pow : 10 ^ i ≤ 10 ^ 18 = pow-le-pow_right (lit< tt) few in omega (arith, h, pow)
