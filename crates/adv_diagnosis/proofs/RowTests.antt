-- Rows that are refused, test by test.
use Rattle.std.proofs.Common.{◌≡◌, ℕ, suc, ◌<◌, ◌≤◌, ℤ, pos, Bool, true, false, cond, not, ◌&&◌, ◌==◌, nat_lt, List, [], ◌∷◌, length, Option, Some, None, Result, Ok, Err, refl, ap, ◌∙◌, is_some, unwrap_or, arith}
use Rattle.std.specs.Option.{option_and_then, option_map}
use Rattle.std.proofs.lemmas.Bool.Decides.{nat_tests}
use Rattle.sql_text.specs.Blank.{trimmed}
use Rattle.sql_text.specs.Word.{word_of}
use Rattle.sql_text.specs.Key.{key_of}
use Rattle.sql_text.specs.Value.{value_of}
use Rattle.sql_catalog.specs.declared.column.ColumnDef.{ColumnDef}
use Rattle.sql_catalog.specs.declared.row_error.RowError.{RowError}
use Rattle.sql_catalog.specs.declared.row_error.RowError.TheVariants as errors
use Rattle.sql_catalog.specs.Streams.{Shape, stream_number, lies_within, lie_within}
use Rattle.sql_catalog.specs.Rows.{Entry, entry, entry_of, row_of, row_for, row_with, fields_of, values_of}
use Rattle.adv_diagnosis.specs.declared.fault.Fault.{Fault}
use Rattle.adv_diagnosis.specs.declared.fault.Fault.TheVariants.{RowKey, RowName, RowStream, Arity, Value, Domain}
use Rattle.adv_diagnosis.specs.RowFaults.{no_value_from, outside_from, columns_at, HasFieldsFault, IsFieldsFault, HasRowFault, IsRowFault}

-- the row of a line, by two tests of its word
row_by : (streams : List Shape) (line : List ℕ) (a b : Bool) → is_some (key_of (word_of line)) ≡ a → nat_lt 24 (length (word_of line)) ≡ b
    → row_of streams line ≡ cond a (Err errors.Syntax) (cond b (Err errors.Limit) (row_for streams (fields_of line) (stream_number streams (word_of line))))
unfolding row_of
row_by streams line a b p q =
    let R : Result Entry RowError = row_for streams (fields_of line) (stream_number streams (word_of line)) in
    ap (λ x. cond x (Err errors.Syntax) (cond (nat_lt 24 (length (word_of line))) (Err errors.Limit) R)) p ∙ ap (λ y. cond a (Err errors.Syntax) (cond y (Err errors.Limit) R)) q

-- a row begins with a reserved word
pub row_key : (streams : List Shape) (line : List ℕ) → is_some (key_of (word_of line)) ≡ true → HasRowFault streams line RowKey
row_key streams line p = record { error = errors.Syntax; refused = row_by streams line true (nat_lt 24 (length (word_of line))) p refl; word = refl; fact = p }

longer : (n : ℕ) → 24 < n → nat_lt 24 n ≡ true
longer n l = grind (arith, nat_tests)

shorter : (n : ℕ) → n ≤ 24 → nat_lt 24 n ≡ false
shorter n l = grind (arith, nat_tests)

-- a row begins with a word that is too long for a name
pub row_name : (streams : List Shape) (line : List ℕ) (n : ℕ) → is_some (key_of (word_of line)) ≡ false → length (word_of line) ≡ n → 24 < n → HasRowFault streams line (RowName n)
row_name streams line n p e l = record {
  error = errors.Limit;
  refused = row_by streams line false true p (ap (nat_lt 24) e ∙ longer n l);
  word = refl;
  fact = (e, l);
}

-- a row begins with a word that is the name of no stream
pub row_stream : (streams : List Shape) (line : List ℕ) → is_some (key_of (word_of line)) ≡ false → length (word_of line) ≤ 24 → stream_number streams (word_of line) ≡ None → HasRowFault streams line RowStream
row_stream streams line p l e = record {
  error = errors.UnknownStream;
  refused = row_by streams line false false p (shorter (length (word_of line)) l) ∙ ap (row_for streams (fields_of line)) e;
  word = refl;
  fact = e;
}

fields_row : (streams : List Shape) (line : List ℕ) (stream : ℕ) → is_some (key_of (word_of line)) ≡ false → length (word_of line) ≤ 24 → stream_number streams (word_of line) ≡ Some stream
    → row_of streams line ≡ row_with stream (columns_at streams stream) (fields_of line)
fields_row streams line stream p l e = row_by streams line false false p (shorter (length (word_of line)) l) ∙ ap (row_for streams (fields_of line)) e

fields_fact : (streams : List Shape) (line : List ℕ) (stream : ℕ) (fault : Fault) → stream_number streams (word_of line) ≡ Some stream → row_of streams line ≡ row_with stream (columns_at streams stream) (fields_of line)
    → HasFieldsFault streams stream (fields_of line) fault → HasRowFault streams line fault
fields_fact streams line stream (Arity number wanted found) e r h = record { error = h.error; refused = r ∙ h.refused; word = h.word; fact = (stream, e, h.fact) }
fields_fact streams line stream (Value field) e r h = record { error = h.error; refused = r ∙ h.refused; word = h.word; fact = (stream, e, h.fact) }
fields_fact streams line stream (Domain number field) e r h = record { error = h.error; refused = r ∙ h.refused; word = h.word; fact = (stream, e, h.fact) }
fields_fact streams line stream fault e r h = absurd (h.fact)

-- the fields of a row of a stream
pub row_fields : (streams : List Shape) (line : List ℕ) (stream : ℕ) (o : Option Fault) → is_some (key_of (word_of line)) ≡ false → length (word_of line) ≤ 24 → stream_number streams (word_of line) ≡ Some stream
    → IsFieldsFault streams stream (fields_of line) o → IsRowFault streams line o
row_fields streams line stream None p l e h = (h.0, fields_row streams line stream p l e ∙ h.1)
row_fields streams line stream (Some fault) p l e h = fields_fact streams line stream fault e (fields_row streams line stream p l e) h

same_count : (n m : ℕ) → n ≡ m → (n == m) ≡ true
same_count n m e = grind (arith, nat_tests)

other_count : (n m : ℕ) → (n ≡ m → ⊥) → (n == m) ≡ false
other_count n m e = grind (arith, nat_tests)

-- there are more or fewer fields than columns
pub wrong_count : (streams : List Shape) (stream wanted found : ℕ) (fields : List (List ℕ)) → wanted ≡ length (columns_at streams stream) → found ≡ length fields → (length fields ≡ length (columns_at streams stream) → ⊥)
    → HasFieldsFault streams stream fields (Arity stream wanted found)
wrong_count streams stream wanted found fields w f d = record {
  error = errors.Arity;
  refused = ap (λ t. cond t (entry_of stream (columns_at streams stream) (values_of fields)) (Err errors.Arity)) (other_count (length fields) (length (columns_at streams stream)) d);
  word = refl;
  fact = (refl, w, f);
}

-- the values of fields, 0 for one that has none
abbrev values : List (List ℕ) → List ℤ
values [] = []
values (f ∷ fields) = unwrap_or (value_of (trimmed f)) (pos 0) ∷ values fields

none_first : (o : Option ℤ) (vs : Option (List ℤ)) (place n : ℕ) (later : Option ℕ) → cond (not (is_some o)) (Some place) later ≡ Some n → (later ≡ Some n → vs ≡ None) → option_and_then (λ v. option_map (λ ws. v ∷ ws) vs) o ≡ None
none_first None vs place n later e h = refl
none_first (Some v) vs place n later e h = ap (option_map (λ ws. v ∷ ws)) (h e)

no_values : (fields : List (List ℕ)) (place n : ℕ) → no_value_from place fields ≡ Some n → values_of fields ≡ None
no_values [] place n e = cc
no_values (f ∷ fields) place n e = none_first (value_of (trimmed f)) (values_of fields) place n (no_value_from (suc place) fields) e (no_values fields (suc place) n)

all_first : (o : Option ℤ) (vs : Option (List ℤ)) (ws : List ℤ) (place : ℕ) (later : Option ℕ) → cond (not (is_some o)) (Some place) later ≡ None → (later ≡ None → vs ≡ Some ws) → option_and_then (λ v. option_map (λ us. v ∷ us) vs) o ≡ Some (unwrap_or o (pos 0) ∷ ws)
all_first None vs ws place later e h = cc
all_first (Some v) vs ws place later e h = ap (option_map (λ us. v ∷ us)) (h e)

all_values : (fields : List (List ℕ)) (place : ℕ) → no_value_from place fields ≡ None → values_of fields ≡ Some (values fields)
all_values [] place e = refl
all_values (f ∷ fields) place e = all_first (value_of (trimmed f)) (values_of fields) (values fields) place (no_value_from (suc place) fields) e (all_values fields (suc place))

in_first : (b : Bool) (place : ℕ) (later : Option ℕ) (l : Bool) → cond (not b) (Some place) later ≡ None → (later ≡ None → l ≡ true) → (b && l) ≡ true
in_first true place later l e h = h e
in_first false place later l e h = cc

all_within : (columns : List ColumnDef) (fields : List (List ℕ)) (place : ℕ) → length fields ≡ length columns → outside_from place columns fields ≡ None → lie_within columns (values fields) ≡ true
all_within [] [] place s e = refl
all_within [] (f ∷ fields) place s e = absurd (omega (arith, s))
all_within (c ∷ columns) [] place s e = absurd (omega (arith, s))
all_within (c ∷ columns) (f ∷ fields) place s e =
    in_first (lies_within c.domain (unwrap_or (value_of (trimmed f)) (pos 0))) place (outside_from (suc place) columns fields) (lie_within columns (values fields)) e (all_within columns fields (suc place) (omega (arith, s)))

out_first : (b : Bool) (place n : ℕ) (later : Option ℕ) (l : Bool) → cond (not b) (Some place) later ≡ Some n → (later ≡ Some n → l ≡ false) → (b && l) ≡ false
out_first true place n later l e h = h e
out_first false place n later l e h = refl

one_outside : (columns : List ColumnDef) (fields : List (List ℕ)) (place n : ℕ) → length fields ≡ length columns → outside_from place columns fields ≡ Some n → lie_within columns (values fields) ≡ false
one_outside [] fields place n s e = cc
one_outside (c ∷ columns) [] place n s e = cc
one_outside (c ∷ columns) (f ∷ fields) place n s e =
    out_first (lies_within c.domain (unwrap_or (value_of (trimmed f)) (pos 0))) place n (outside_from (suc place) columns fields) (lie_within columns (values fields)) e (one_outside columns fields (suc place) n (omega (arith, s)))

-- a row of as many fields as columns
counted : (streams : List Shape) (stream : ℕ) (fields : List (List ℕ)) → length fields ≡ length (columns_at streams stream) → row_with stream (columns_at streams stream) fields ≡ entry_of stream (columns_at streams stream) (values_of fields)
counted streams stream fields s = ap (λ t. cond t (entry_of stream (columns_at streams stream) (values_of fields)) (Err errors.Arity)) (same_count (length fields) (length (columns_at streams stream)) s)

-- a field is no integer
pub no_integer : (streams : List Shape) (stream field : ℕ) (fields : List (List ℕ)) → length fields ≡ length (columns_at streams stream) → no_value_from 0 fields ≡ Some field → HasFieldsFault streams stream fields (Value field)
no_integer streams stream field fields s e = record {
  error = errors.Value;
  refused = counted streams stream fields s ∙ ap (entry_of stream (columns_at streams stream)) (no_values fields 0 field e);
  word = refl;
  fact = e;
}

-- a value lies outside the domain of its column
pub outside_domain : (streams : List Shape) (stream field : ℕ) (fields : List (List ℕ)) → length fields ≡ length (columns_at streams stream) → no_value_from 0 fields ≡ None
    → outside_from 0 (columns_at streams stream) fields ≡ Some field → HasFieldsFault streams stream fields (Domain stream field)
outside_domain streams stream field fields s e f =
    let columns = columns_at streams stream in
    record {
      error = errors.Domain;
      refused = counted streams stream fields s ∙ ap (entry_of stream columns) (all_values fields 0 e)
          ∙ ap (λ t. cond t (Ok (entry stream (values fields))) (Err errors.Domain)) (one_outside columns fields 0 field s f);
      word = refl;
      fact = (refl, f);
    }

-- the fields are a row of the stream
pub good_row : (streams : List Shape) (stream : ℕ) (fields : List (List ℕ)) → length fields ≡ length (columns_at streams stream) → no_value_from 0 fields ≡ None
    → outside_from 0 (columns_at streams stream) fields ≡ None → IsFieldsFault streams stream fields None
good_row streams stream fields s e f =
    let columns = columns_at streams stream in (
      entry stream (values fields),
      counted streams stream fields s ∙ ap (entry_of stream columns) (all_values fields 0 e)
          ∙ ap (λ t. cond t (Ok (entry stream (values fields))) (Err errors.Domain)) (all_within columns fields 0 s f),
    )
