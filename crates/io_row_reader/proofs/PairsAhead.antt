-- Fields of which two are read together.
use Rattle.std.proofs.Common.{◌≡◌, ℕ, ℤ, pos, to_z, w64, ◌+◌, ◌-◌, ◌*◌, ◌^◌, ◌<◌, ◌≤◌, take, drop, List, [], ◌∷◌, ◌++◌, length, get_or, length-append, Option, None, Some, ap, subst, arith}
use Rattle.std.specs.List.{prefix_len}
use Rattle.std.specs.Prelude.{IfSome, slice_index}
use Rattle.sql_text.specs.Value.{amount}
use Rattle.sql_text.specs.Word.{is_digit}
use Rattle.io_row_reader.specs.Ahead.{AddsAt, AreFields, FieldsTo, IsEnded}
use Rattle.io_row_reader.specs.Short.{ArePair, IsShort}
use Rattle.io_row_reader.specs.declared.pairs.DigitPair.{DigitPair}
use Rattle.io_row_reader.proofs.FieldsAhead.{fields_last, fields_more, short_at}
use Rattle.io_row_reader.proofs.PlainFields.{amount_pushed}

-- an integer stands between two places of a text, or two with a comma between them, and what stands there is added to a row
pub data AddsNext (text : List ℕ) (start end : ℕ) (old new : List ℤ) : Type 0 where
  one : AddsAt text start end old new → AddsNext text start end old new
  two : (comma : ℕ) → (between : List ℤ) → AddsAt text start comma old between → slice_index text comma ≡ 44 → AddsAt text (comma + 1) end between new → AddsNext text start end old new

is_added : (text : List ℕ) (start digits kept : ℕ) (old new : List ℤ) → IsShort text start digits kept → new ≡ old ++ pos kept ∷ [] → AddsAt text start (start + digits) old new
is_added text start digits kept old new h pushed =
    short_at text start digits kept old new h.run (h.some, omega (arith, h.few), omega (arith, h.small)) h.within (λ _. h.writes) pushed

pub pair_next : (text : List ℕ) (start comma len first second : ℕ) (old between new : List ℤ) → ArePair text start comma len first second → between ≡ old ++ pos first ∷ [] → new ≡ between ++ pos second ∷ []
    → AddsNext text start (start + len) old new
pair_next text start comma len first second old between new h begun pushed =
    let end : start + comma + 1 + (len - (comma + 1)) ≡ start + len = omega (arith, h.order) in
    two (start + comma) between (is_added text start comma first old between h.left begun) h.separated
    (subst (λ n. AddsAt text (start + comma + 1) n between new) end (is_added text (start + comma + 1) (len - (comma + 1)) second between new h.right pushed))

-- where each integer has at most 15 digits, the place behind grows by at most 16 bytes an integer
pub next_near : (start len : ℕ) (old new : List ℤ) (v : ℤ) → len ≤ 15 → new ≡ old ++ v ∷ [] → start + len + 1 + 16 * length old ≤ start + 16 * length new
next_near start len old new v few pushed = omega (arith, few, ap length pushed, length-append old (v ∷ []))

pub pair_near : (text : List ℕ) (start comma len first second : ℕ) (old between new : List ℤ) (v w : ℤ) → ArePair text start comma len first second → between ≡ old ++ v ∷ [] → new ≡ between ++ w ∷ []
    → start + len + 1 + 16 * length old ≤ start + 16 * length new
pair_near text start comma len first second old between new v w h begun pushed =
    omega (arith, h.left.few, h.right.few, h.order, ap length begun, length-append old (v ∷ []), ap length pushed, length-append between (w ∷ []))

pub next_last : (text : List ℕ) (start place end : ℕ) (row new : List ℤ) → IsEnded text → FieldsTo text start place row → AddsNext text place end row new → AreFields text start end new
next_last text start place end row new ended h a = elim a [
  | one adds ↦ fields_last text start place end row new h adds
  | two comma between left is right ↦ fields_last text start (comma + 1) end between new (fields_more text start place comma row between ended h left is) right
]

pub next_more : (text : List ℕ) (start place end : ℕ) (row new : List ℤ) → IsEnded text → FieldsTo text start place row → AddsNext text place end row new → get_or text end 0 ≡ 44 → FieldsTo text start (end + 1) new
next_more text start place end row new ended h a comma = elim a [
  | one adds ↦ fields_more text start place end row new ended h adds comma
  | two there between left is right ↦ fields_more text start (there + 1) end between new ended (fields_more text start place there row between ended h left is) right comma
]

-- the next integer of a row, or two, of at most 15 digits each
pub record ReadsNext (text : List ℕ) (start end width : ℕ) (old new : List ℤ) : Type 0 where
  pub adds : AddsNext text start end old new
  pub near : end + 1 + 16 * length old ≤ start + 16 * length new
  pub few : length new ≤ width

pub two_read : (text : List ℕ) (start width comma len first second : ℕ) (old between new : List ℤ) → ArePair text start comma len first second → length old + 1 < width → between ≡ old ++ to_z w64 first ∷ []
    → new ≡ between ++ to_z w64 second ∷ [] → ReadsNext text start (start + len) width old new
two_read text start width comma len first second old between new h lacks begun pushed = record {
  adds = pair_next text start comma len first second old between new h (amount_pushed first old between (omega (arith, h.left.small)) begun) (amount_pushed second between new (omega (arith, h.right.small)) pushed);
  near = pair_near text start comma len first second old between new (to_z w64 first) (to_z w64 second) h begun pushed;
  few = omega (arith, lacks, ap length begun, length-append old (to_z w64 first ∷ []), ap length pushed, length-append between (to_z w64 second ∷ []));
}

pub one_read : (text : List ℕ) (start width digits kept : ℕ) (old new : List ℤ) → digits ≡ prefix_len is_digit (drop start text) → 0 < digits → digits ≤ 15 → start + digits < length text → kept ≡ amount (take digits (drop start text))
    → kept < 10 ^ 18 → length old < width → new ≡ old ++ to_z w64 kept ∷ [] → ReadsNext text start (start + digits) width old new
one_read text start width digits kept old new run some few within is small lacks pushed = record {
  adds = one (short_at text start digits kept old new run (some, omega (arith, few), omega (arith, small)) within (λ _. is) (amount_pushed kept old new (omega (arith, small)) pushed));
  near = next_near start digits old new (to_z w64 kept) few pushed;
  few = omega (arith, lacks, ap length pushed, length-append old (to_z w64 kept ∷ []));
}

-- a pair that was read is one
pub is_pair : (text : List ℕ) (start : ℕ) (read : Option DigitPair) (pair : DigitPair) → IfSome read (λ p. ArePair text start p.comma p.len (slice_index p.amounts 0) (slice_index p.amounts 1)) → read ≡ Some pair
    → ArePair text start pair.comma pair.len (slice_index pair.amounts 0) (slice_index pair.amounts 1)
is_pair text start read pair h is = subst (λ (o : Option DigitPair). IfSome o (λ p. ArePair text start p.comma p.len (slice_index p.amounts 0) (slice_index p.amounts 1))) is h

pub no_pair : (pair : DigitPair) → None ≡ Some pair → ⊥
no_pair pair e = cc
