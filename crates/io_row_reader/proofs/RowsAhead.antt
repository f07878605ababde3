-- Rows at the front of a text whose last byte is LF.
use Rattle.std.proofs.Common.{◌≡◌, ℕ, zero, suc, ℤ, ◌+◌, ◌-◌, ◌<◌, ◌≤◌, ◌≢◌, true, false, cond, ◌==◌, nat_lt, List, [], ◌∷◌, ◌++◌, length, take, drop, get_or, append_assoc, length-append, length-drop, Option, None, Some, refl, ap, sym, ◌∙◌, subst, inl, inr, arith}
use Rattle.std.specs.Prelude.{IfSome}
use Rattle.std.specs.List.{list_all, prefix_len, slice_range, slice_split}
use Rattle.std.specs.Io.BufRead.{ends_with_byte, strip_last}
use Rattle.std.proofs.Math.Seq.{take-append_seam, drop-append_seam, take-append-add}
use Rattle.std.proofs.lemmas.Bool.Decides.{nat_tests}
use Rattle.std.proofs.lemmas.List.{take-append-drop, length-take, take-append-le, take_more}
use Rattle.std.proofs.lemmas.List.Elements.{All-append}
use Rattle.std.proofs.lemmas.List.Folds.{list_all-append, list_all_at}
use Rattle.std.specs.declared.result.Result.TheVariants.{Ok}
use Rattle.sql_text.specs.Word.{is_word_byte, word_of}
use Rattle.sql_text.proofs.Fronts.{and_left, and_right, and_both, all_weaker, front_passes, front_stops}
use Rattle.sql_text.proofs.LeadingValue.{flag}
use Rattle.io_line_reader.specs.Reading.{IsFirstFeed, IsPlain as HasNoFeed}
use Rattle.sql_catalog.specs.Rows.{HasStream, entry, is_comma, row_with}
use Rattle.sql_catalog.specs.Streams.{IsName, KeepsDomains, Shape, lie_within, shape_at, stream_number}
use Rattle.sql_parser.specs.LineKind.{without_return}
use Rattle.io_row_reader.specs.Ahead.{AreFields, BeginsStream, EndsLine, IsEnded, IsRowAhead}
use Rattle.io_row_reader.specs.Plain.{IsPlain, IsPlainRow, is_plain_byte}
use Rattle.io_row_reader.proofs.PlainFields.{clash, domains_kept, whole_row}
use Rattle.io_row_reader.proofs.PlainLines.{plain_row, word_plain}
use Rattle.io_row_reader.proofs.FieldsAhead.{take_sum}

feed_not_plain : (b : ℕ) → b ≡ 10 → is_plain_byte b ≡ false
feed_not_plain b h = grind (arith, nat_tests)

return_not_plain : (b : ℕ) → (b == 13) ≡ true → is_plain_byte b ≡ false
return_not_plain b h = grind (arith, nat_tests)

some : (n : ℕ) → nat_lt 0 n ≡ true → 0 < n
some n h = grind (arith, nat_tests)

plain_no_feed : (text : List ℕ) → IsPlain text → HasNoFeed text
plain_no_feed text plain = λ k d lt e. clash (sym plain ∙ list_all_at is_plain_byte text k d lt (feed_not_plain (get_or text k d) e))

return_no_feed : HasNoFeed (13 ∷ [])
return_no_feed zero d lt e = absurd (omega (arith, e))
return_no_feed (suc k) d lt e = absurd (omega (arith, lt))

-- no CR is at the end of a plain text
plain_kept : (text : List ℕ) → IsPlain text → strip_last 13 text ≡ text
plain_kept text plain = elim (flag (ends_with_byte 13 text)) [
  | inl is ↦
      let room : 0 < length text = some (length text) (and_left (nat_lt 0 (length text)) (get_or text (length text - 1) 0 == 13) is) in
      let last : is_plain_byte (get_or text (length text - 1) 0) ≡ false = return_not_plain (get_or text (length text - 1) 0) (and_right (nat_lt 0 (length text)) (get_or text (length text - 1) 0 == 13) is) in
      absurd (clash (sym plain ∙ list_all_at is_plain_byte text (length text - 1) 0 (omega (arith, room)) last))
  | inr apart ↦ ap (λ b. cond b (take (length text - 1) text) text) apart
]

last_byte : (text : List ℕ) (b : ℕ) → get_or (text ++ b ∷ []) (length text) 0 ≡ b
last_byte [] b = refl
last_byte (x ∷ xs) b = last_byte xs b

-- a text that one byte stands behind
at_end : (text : List ℕ) (b : ℕ) → get_or (text ++ b ∷ []) (length (text ++ b ∷ []) - 1) 0 ≡ b
at_end text b =
    let size : length (text ++ b ∷ []) - 1 ≡ length text = omega (arith, length-append text (b ∷ [])) in
    ap (λ n. get_or (text ++ b ∷ []) n 0) size ∙ last_byte text b

pub ended_behind : (text : List ℕ) → IsEnded (text ++ 10 ∷ [])
ended_behind text = at_end text 10

return_dropped : (text : List ℕ) → strip_last 13 (text ++ 13 ∷ []) ≡ text
return_dropped text =
    let whole = text ++ 13 ∷ [] in
    let size : length whole - 1 ≡ length text = omega (arith, length-append text (13 ∷ [])) in
    let long : nat_lt 0 (length whole) ≡ true = grind (arith, nat_tests, length-append text (13 ∷ [])) in
    let here : ends_with_byte 13 whole ≡ true = and_both (nat_lt 0 (length whole)) (get_or whole (length whole - 1) 0 == 13) long (ap (λ b. b == 13) (at_end text 13)) in
    ap (λ b. cond b (take (length whole - 1) whole) whole) here ∙ ap (λ n. take n whole) size ∙ take-append_seam text (13 ∷ [])

-- this is the line without CR, and no LF is in the line
abbrev IsKept : List ℕ → List ℕ → Type 0
IsKept kept line = (kept ≡ without_return line) × HasNoFeed line

line_kept : (text : List ℕ) (end len : ℕ) → IsPlain (take end text) → end < length text → EndsLine text end len → IsKept (take end text) (take len text)
line_kept text end len plain room h = elim h.return [
  | inl same ↦
      let line : take len text ≡ take end text = ap (λ n. take n text) same in
      subst (λ (l : List ℕ). IsKept (take end text) l) (sym line) (sym (plain_kept (take end text) plain), plain_no_feed (take end text) plain)
  | inr more ↦
      let line : take len text ≡ take end text ++ 13 ∷ [] = ap (λ n. take n text) more.0 ∙ take_more text end 0 room ∙ ap (λ b. take end text ++ b ∷ []) more.1 in
      subst (λ (l : List ℕ). IsKept (take end text) l) (sym line)
      (sym (return_dropped (take end text)), All-append (λ b. b ≢ 10) (take end text) (13 ∷ []) (plain_no_feed (take end text) plain) return_no_feed)
]

comma_no_word : (b : ℕ) → b ≡ 44 → is_word_byte b ≡ false
comma_no_word b h = grind (arith, nat_tests)

-- a text with the same word, and a comma and other fields behind it
stream_front : (streams : List Shape) (word fields text : List ℕ) (stream : ℕ) → list_all is_word_byte word ≡ true → IsName word → stream_number streams word ≡ Some stream → text ≡ word ++ 44 ∷ fields
    → HasStream streams text stream fields
stream_front streams word fields text stream passes known number whole =
    let line = word ++ 44 ∷ fields in
    let count : prefix_len is_word_byte line ≡ length word = front_stops is_word_byte word (44 ∷ fields) passes (comma_no_word 44 refl) in
    let same : word_of line ≡ word = ap (λ n. take n line) count ∙ take-append_seam word (44 ∷ fields) in
    subst (λ (t : List ℕ). HasStream streams t stream fields) (sym whole) record {
      known = subst (λ (w : List ℕ). IsName w) (sym same) known;
      number = ap (stream_number streams) same ∙ number;
      behind = ap (λ n. drop n line) count ∙ drop-append_seam word (44 ∷ fields);
    }

-- what was read of the first line of a text is its row
pub row_found : (streams : List Shape) (text : List ℕ) (stream start end len : ℕ) (values : List ℤ) → BeginsStream streams text stream start → AreFields text start end values → EndsLine text end len
    → len + 1 < length text → length values ≤ 8 → row_with stream (shape_at streams stream).columns (slice_split is_comma (slice_range text start end)) ≡ Ok (entry stream values) → KeepsDomains streams stream values
    → IsRowAhead streams text stream len values
row_found streams text stream start end len values b f e before few row domains =
    let h = b.begins in
    let word : List ℕ = word_of text in
    let rest : List ℕ = drop start text in
    let fields : List ℕ = slice_range text start end in
    let whole : text ≡ word ++ 44 ∷ rest = sym (take-append-drop (prefix_len is_word_byte text) text) ∙ ap (λ (l : List ℕ). word ++ l) h.behind in
    let size : start ≡ length word + 1 = omega (arith, ap length whole, length-append word (44 ∷ rest), length-drop start text, b.within) in
    let head : take start text ≡ word ++ 44 ∷ [] = ap (λ n. take n text) size ∙ ap (λ (t : List ℕ). take (length word + 1) t) whole ∙ take-append-add word (44 ∷ rest) 1 in
    let sum : end ≡ start + (end - start) = omega (arith, f.order) in
    let front : take end text ≡ word ++ 44 ∷ fields =
    take_sum start (end - start) end text sum ∙ ap (λ (l : List ℕ). l ++ fields) head ∙ append_assoc word (44 ∷ []) fields in
    let passes : list_all is_word_byte word ≡ true = front_passes is_word_byte text in
    let plain : IsPlain (take end text) = ap (list_all is_plain_byte) front ∙ list_all-append is_plain_byte word (44 ∷ fields)
    ∙ and_both (list_all is_plain_byte word) (list_all is_plain_byte fields) (all_weaker is_word_byte is_plain_byte word_plain word passes) f.plain in
    let line = line_kept text end len plain f.within e in
    record {
      feed = (e.within, e.feed, line.1);
      before = before;
      short = short;
      row = plain_row streams (take len text) (take end text) fields stream values line.0 (stream_front streams word fields (take end text) stream passes h.known h.number front) row domains f.plain;
    }
  where
    short : len ≤ 1024
    short = elim e.return [
      | inl same ↦ omega (arith, same, f.near, b.near, few)
      | inr more ↦ omega (arith, more.0, f.near, b.near, few)
    ]

-- the same, where each value lies in the domain of its column
pub row_kept : (streams : List Shape) (text : List ℕ) (stream start end len : ℕ) (values : List ℤ) → BeginsStream streams text stream start → AreFields text start end values → EndsLine text end len → len + 1 < length text
    → length values ≡ length (shape_at streams stream).columns → length values ≤ 8 → lie_within (shape_at streams stream).columns values ≡ true → IsRowAhead streams text stream len values
row_kept streams text stream start end len values b f e before size few within =
    let fields = slice_split is_comma (slice_range text start end) in
    row_found streams text stream start end len values b f e before few (whole_row stream (shape_at streams stream).columns fields values f.values (f.count ∙ size) within) (domains_kept streams stream values within)

-- the same, where two bytes stand behind the last field, and more
pub row_ending : (streams : List Shape) (text : List ℕ) (stream start end : ℕ) (values : List ℤ) (ending : Option ℕ) → BeginsStream streams text stream start → AreFields text start end values → end + 2 < length text
    → length values ≡ length (shape_at streams stream).columns → length values ≤ 8 → lie_within (shape_at streams stream).columns values ≡ true → IfSome ending (λ len. EndsLine text end len)
    → IfSome ending (λ len. IsRowAhead streams text stream len values)
row_ending streams text stream start end values None b f room size few within e = tt
row_ending streams text stream start end values (Some len) b f room size few within e =
    row_kept streams text stream start end len values b f e (elim e.return [ inl same ↦ omega (arith, same, room) | inr more ↦ omega (arith, more.0, room) ]) size few within

get_or-front : (text more : List ℕ) (n : ℕ) → n < length text → get_or (text ++ more) n 0 ≡ get_or text n 0
get_or-front [] more n lt = absurd (omega (arith, lt))
get_or-front (x ∷ xs) more zero lt = refl
get_or-front (x ∷ xs) more (suc n) lt = get_or-front xs more n (omega (arith, lt))

-- the line of a row that lies before the last LF of what a reader has ahead and one LF more
pub record IsAhead (ahead : List ℕ) (len : ℕ) : Type 0 where
  pub feed : IsFirstFeed ahead len
  pub same : take len (ahead ++ 10 ∷ []) ≡ take len ahead

pub lies_ahead : (ahead : List ℕ) (len : ℕ) → IsFirstFeed (ahead ++ 10 ∷ []) len → len + 1 < length (ahead ++ 10 ∷ []) → IsAhead ahead len
lies_ahead ahead len h before =
    let room : len < length ahead = omega (arith, before, length-append ahead (10 ∷ [])) in
    let same : take len (ahead ++ 10 ∷ []) ≡ take len ahead = take-append-le len ahead (10 ∷ []) (omega (arith, room)) in
    record {
      feed = (room, sym (get_or-front ahead (10 ∷ []) len room) ∙ h.1, subst (λ (l : List ℕ). HasNoFeed l) same h.2);
      same = same;
    }

-- the first LF of what a reader has ahead, by the row that was read from it and one LF more
pub first_ahead : (streams : List Shape) (ahead given : List ℕ) (stream len : ℕ) (values : List ℤ) → given ≡ ahead ++ 10 ∷ [] → IsRowAhead streams given stream len values → IsFirstFeed ahead len
first_ahead streams ahead given stream len values is h =
    let row = subst (λ (t : List ℕ). IsRowAhead streams t stream len values) is h in
    (lies_ahead ahead len row.feed row.before).feed

-- the line that is given is the row that was read
pub row_line : (streams : List Shape) (ahead given : List ℕ) (stream len : ℕ) (values : List ℤ) (line text : List ℕ) → given ≡ ahead ++ 10 ∷ [] → IsRowAhead streams given stream len values
    → line ≡ take len ahead → line ≡ text → (length text ≤ 1024) × IsPlainRow streams text stream values
row_line streams ahead given stream len values line text is h gives begun =
    let row = subst (λ (t : List ℕ). IsRowAhead streams t stream len values) is h in
    let same : take len ahead ≡ text = sym gives ∙ begun in
    let kept : take len (ahead ++ 10 ∷ []) ≡ text = (lies_ahead ahead len row.feed row.before).same ∙ same in
    (omega (arith, ap length (sym same), length-take len ahead, row.short), subst (λ (t : List ℕ). IsPlainRow streams t stream values) kept row.row)
