-- Names at the front of a text whose last byte is LF.
use Rattle.std.proofs.Common.{◌≡◌, ℕ, zero, suc, ◌+◌, ◌-◌, ◌<◌, ◌≤◌, Bool, true, false, not, ◌||◌, List, [], ◌∷◌, length, map, take, drop, get_or, refl, ap, sym, ◌∙◌, subst, inl, inr, arith}
use Rattle.std.specs.List.{list_all, list_any}
use Rattle.std.specs.Str.{bytes_eq}
use Rattle.std.proofs.Math.Seq.{take-length}
use Rattle.std.proofs.lemmas.Bool.{cases_eq}
use Rattle.std.proofs.lemmas.Bool.Decides.{nat_tests}
use Rattle.std.proofs.lemmas.List.{drop-drop, get_or-take, take_more_same}
use Rattle.std.proofs.lemmas.List.Folds.{list_all_at}
use Rattle.std.proofs.lemmas.Slice.Eq.{bytes_eq-Decides}
use Rattle.sql_text.specs.Word.{behind_word, is_letter, is_word, is_word_byte, word_of}
use Rattle.sql_text.proofs.Fronts.{and_left, and_right, and_both}
use Rattle.sql_text.proofs.LeadingValue.{flag}
use Rattle.sql_catalog.specs.Rows.{IsNamed, begins_comma, is_named}
use Rattle.sql_catalog.specs.Streams.{IsCatalog, IsName, Shape, all_differ, shape_at}
use Rattle.sql_catalog.proofs.NamedFronts.{front_named, front_unnamed, stream_found}
use Rattle.io_row_reader.specs.Ahead.{BeginsStream, IsEnded}
use Rattle.io_row_reader.proofs.PlainFields.{clash}
use Rattle.io_row_reader.proofs.PlainLines.{name_word}

-- behind a byte that is no LF there is one more
pub inside : (text : List ℕ) (i : ℕ) → IsEnded text → i < length text → (get_or text i 0 ≡ 10 → ⊥) → i + 1 < length text
inside text i ended room other = elim (cases_eq i (length text - 1)) [
  | inl e ↦ absurd (other (ap (λ n. get_or text n 0) e ∙ ended))
  | inr apart ↦ omega (arith, room, apart)
]

-- behind a minus there is one more
pub behind_minus : (text : List ℕ) (i : ℕ) → IsEnded text → i < length text → get_or text i 0 ≡ 45 → i + 1 < length text
behind_minus text i ended room minus = inside text i ended room (λ feed. absurd (omega (arith, minus, feed)))

pub some_ended : (text : List ℕ) → IsEnded text → 0 < length text
some_ended [] h = absurd (omega (arith, h))
some_ended (b ∷ bs) h = omega arith

letter_in_word : (b : ℕ) → is_letter b ≡ true → is_word_byte b ≡ true
letter_in_word b h = grind (arith, nat_tests)

word_bytes : (word : List ℕ) → is_word word ≡ true → (0 < length word) × (list_all is_word_byte word ≡ true)
word_bytes [] h = cc
word_bytes (b ∷ bs) h = (omega arith, and_both (is_word_byte b) (list_all is_word_byte bs) (letter_in_word b (and_left (is_letter b) (list_all is_word_byte bs) h)) (and_right (is_letter b) (list_all is_word_byte bs) h))

pub name_bytes : (name : List ℕ) → IsName name → (0 < length name) × (list_all is_word_byte name ≡ true)
name_bytes name h = word_bytes name (name_word name h)

feed_no_word : (b : ℕ) → b ≡ 10 → is_word_byte b ≡ false
feed_no_word b h = grind (arith, nat_tests)

no_feed : (name : List ℕ) (i : ℕ) → list_all is_word_byte name ≡ true → i < length name → get_or name i 0 ≡ 10 → ⊥
no_feed name i all room e = clash (sym all ∙ list_all_at is_word_byte name i 0 room (feed_no_word (get_or name i 0) e))

-- one more byte of a name
pub front_more : (text name : List ℕ) (i : ℕ) → IsEnded text → IsName name → i < length text → i < length name → take i text ≡ take i name → get_or text i 0 ≡ get_or name i 0
    → (take (i + 1) text ≡ take (i + 1) name) × (i + 1 < length text)
front_more text name i ended known room here same e =
    (take_more_same text name i 0 room here same e, inside text i ended room (λ f. no_feed name i (name_bytes name known).1 here (sym e ∙ f)))

-- another byte than that of a name
pub mismatch : (text name : List ℕ) (i : ℕ) → i < length name → (get_or text i 0 ≡ get_or name i 0 → ⊥) → is_named name text ≡ false
mismatch text name i here other = elim (flag (bytes_eq (take (length name) text) name)) [
  | inl is ↦ absurd (other (sym (get_or-take (length name) text i 0 here) ∙ ap (λ (l : List ℕ). get_or l i 0) ((bytes_eq-Decides (take (length name) text) name).0 is)))
  | inr apart ↦ front_unnamed name text apart
]

-- all bytes of a name, and a comma behind it
pub name_found : (text name : List ℕ) (i : ℕ) → IsEnded text → IsName name → i < length text → i ≡ length name → take i text ≡ take i name → get_or text i 0 ≡ 44
    → (i + 1 ≡ length name + 1) × (i + 1 < length text) × IsNamed name text (drop (i + 1) text)
name_found text name i ended known room is same comma =
    let n = length name in
    let front : take n text ≡ name = ap (λ k. take k text) (sym is) ∙ same ∙ ap (λ k. take k name) is ∙ take-length name in
    let behind : drop 1 (drop n text) ≡ drop (i + 1) text = drop-drop 1 n text ∙ ap (λ k. drop (k + 1) text) (sym is) in (
      ap (λ k. k + 1) is,
      inside text i ended room (λ f. absurd (omega (arith, comma, f))),
      subst (λ (l : List ℕ). IsNamed name text l) behind (front_named name text known (omega (arith, is, room)) (ap (λ k. get_or text k 0) (sym is) ∙ comma) front),
    )

-- Names that differ.

or_left : (a b : Bool) → (a || b) ≡ false → a ≡ false
or_left true b h = cc
or_left false b h = refl

or_right : (a b : Bool) → (a || b) ≡ false → b ≡ false
or_right true b h = cc
or_right false b h = h

not_true : (a : Bool) → not a ≡ true → a ≡ false
not_true true h = cc
not_true false h = refl

none_among : (name : List ℕ) (streams : List Shape) (i : ℕ) → list_any (bytes_eq name) (map (λ (s : Shape). s.name) streams) ≡ false → i < length streams → bytes_eq name (shape_at streams i).name ≡ false
none_among name [] i h room = absurd (omega (arith, room))
none_among name (s ∷ streams) zero h room = or_left (bytes_eq name s.name) (list_any (bytes_eq name) (map (λ (t : Shape). t.name) streams)) h
none_among name (s ∷ streams) (suc i) h room =
    none_among name streams i (or_right (bytes_eq name s.name) (list_any (bytes_eq name) (map (λ (t : Shape). t.name) streams)) h) (omega (arith, room))

differ_at : (streams : List Shape) (k i : ℕ) → all_differ (map (λ (s : Shape). s.name) streams) ≡ true → k < i → i < length streams → bytes_eq (shape_at streams k).name (shape_at streams i).name ≡ false
differ_at [] k i h before room = absurd (omega (arith, room))
differ_at (s ∷ streams) k zero h before room = absurd (omega (arith, before))
differ_at (s ∷ streams) zero (suc i) h before room =
    let others = map (λ (t : Shape). t.name) streams in
    none_among s.name streams i (not_true (list_any (bytes_eq s.name) others) (and_left (not (list_any (bytes_eq s.name) others)) (all_differ others) h)) (omega (arith, room))
differ_at (s ∷ streams) (suc k) (suc i) h before room =
    let others = map (λ (t : Shape). t.name) streams in
    differ_at streams k i (and_right (not (list_any (bytes_eq s.name) others)) (all_differ others) h) (omega (arith, before)) (omega (arith, room))

-- where a text begins with the name of a stream, it begins with that of no stream before it
others_unnamed : (streams : List Shape) (text : List ℕ) (i : ℕ) (name rest : List ℕ) → IsCatalog streams → i < length streams → name ≡ (shape_at streams i).name → IsNamed name text rest
    → (k : ℕ) → k < i → is_named (shape_at streams k).name text ≡ false
others_unnamed streams text i name rest sound room is h k before =
    let own : List ℕ = (shape_at streams i).name in
    let other : List ℕ = (shape_at streams k).name in
    elim (flag (is_named other text)) [
      | inl yes' ↦
          let same : other ≡ word_of text = (bytes_eq-Decides other (word_of text)).0 (and_right (begins_comma (behind_word text)) (bytes_eq other (word_of text)) yes') in
          absurd (clash (sym ((bytes_eq-Decides other own).1 (same ∙ sym h.word ∙ is)) ∙ differ_at streams k i sound.differ before room))
      | inr plain ↦ plain
    ]

-- the stream with whose name and a comma a text begins
pub stream_begins : (streams : List Shape) (text : List ℕ) (i len : ℕ) (name : List ℕ) → IsCatalog streams → i < length streams → name ≡ (shape_at streams i).name → length name ≤ 24
    → (len ≡ length name + 1) × (len < length text) × IsNamed name text (drop len text) → BeginsStream streams text i len
stream_begins streams text i len name sound room is short found = record {
  known = room;
  near = omega (arith, short, found.0);
  within = found.1;
  begins = stream_found streams text i name (drop len text) room is found.2 (others_unnamed streams text i name (drop len text) sound room is found.2);
}

-- A name of one byte.

pub single_name : (streams : List Shape) (text : List ℕ) (stream : ℕ) → IsCatalog streams → stream < length streams → (shape_at streams stream).name ≡ get_or text 0 0 ∷ [] → IsName (get_or text 0 0 ∷ [])
single_name streams text stream sound room is = subst (λ (name : List ℕ). IsName name) is (sound.shapes stream (record { name = []; columns = [] }) room).name

-- behind such a name there is a byte
pub single_inside : (streams : List Shape) (text : List ℕ) (stream : ℕ) → IsCatalog streams → stream < length streams → IsEnded text → (shape_at streams stream).name ≡ get_or text 0 0 ∷ []
    → (take 1 text ≡ take 1 (get_or text 0 0 ∷ [])) × (1 < length text)
single_inside streams text stream sound room ended is =
    front_more text (get_or text 0 0 ∷ []) 0 ended (single_name streams text stream sound room is) (some_ended text ended) (omega arith) refl refl

-- where a comma stands behind it, the text begins with that stream
pub single_begins : (streams : List Shape) (text : List ℕ) (stream : ℕ) → IsCatalog streams → stream < length streams → IsEnded text → (shape_at streams stream).name ≡ get_or text 0 0 ∷ [] → get_or text 1 0 ≡ 44
    → BeginsStream streams text stream 2
single_begins streams text stream sound room ended is comma =
    let name : List ℕ = get_or text 0 0 ∷ [] in
    let front = single_inside streams text stream sound room ended is in
    stream_begins streams text stream 2 name sound room (sym is) (omega arith) (name_found text name 1 ended (single_name streams text stream sound room is) front.1 refl front.0 comma)
