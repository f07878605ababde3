-- Texts that begin with a name and a comma.
use Rattle.std.proofs.Common.{◌≡◌, ℕ, zero, suc, ◌<◌, ◌≤◌, Bool, true, false, not, ◌&&◌, ◌==◌, nat_le, List, [], ◌∷◌, ◌++◌, length, take, drop, get_or, refl, ap, sym, ◌∙◌, subst, is_some, inl, inr, arith}
use Rattle.std.specs.List.{list_all, prefix_len}
use Rattle.std.specs.Str.{bytes_eq}
use Rattle.std.proofs.lemmas.List.{take-append-drop}
use Rattle.std.proofs.lemmas.List.Folds.{length-prefix_len}
use Rattle.std.proofs.lemmas.Bool.Decides.{nat_tests}
use Rattle.std.proofs.lemmas.Slice.Eq.{bytes_eq-Decides}
use Rattle.sql_text.specs.Word.{is_letter, is_word, is_word_byte, word_of, behind_word}
use Rattle.sql_text.specs.Key.{key_of}
use Rattle.sql_text.specs.Name.{is_name}
use Rattle.sql_text.proofs.Fronts.{StopsFor, and_left, and_right, and_both, front_stops}
use Rattle.sql_text.proofs.LeadingValue.{flag}
use Rattle.sql_catalog.specs.Rows.{HasStream, IsNamed, begins_comma, is_named}
use Rattle.sql_catalog.specs.Streams.{IsName, Shape, shape_at}
use Rattle.sql_catalog.proofs.NamedShapes.{number-found}

clash : true ≡ false → ⊥
clash p = cc

is_44 : (b : ℕ) → (b == 44) ≡ true → b ≡ 44
is_44 b h = grind (arith, nat_tests)

comma_no_word : (b : ℕ) → b ≡ 44 → is_word_byte b ≡ false
comma_no_word b h = grind (arith, nat_tests)

letter_in_word : (b : ℕ) → is_letter b ≡ true → is_word_byte b ≡ true
letter_in_word b h = grind (arith, nat_tests)

word_passes : (word : List ℕ) → is_word word ≡ true → list_all is_word_byte word ≡ true
word_passes [] h = refl
word_passes (b ∷ bs) h = and_both (is_word_byte b) (list_all is_word_byte bs) (letter_in_word b (and_left (is_letter b) (list_all is_word_byte bs) h)) (and_right (is_letter b) (list_all is_word_byte bs) h)

name_passes : (name : List ℕ) → is_name name ≡ true → list_all is_word_byte name ≡ true
unfolding is_name
name_passes name h = word_passes name (and_left (is_word name) (not (is_some (key_of name))) (and_left (is_word name && not (is_some (key_of name))) (nat_le (length name) 24) h))

-- a comma at the front of what stands behind some bytes
comma_at : (k : ℕ) (text : List ℕ) → begins_comma (drop k text) ≡ true → (k < length text) × (get_or text k 0 ≡ 44)
comma_at zero [] h = cc
comma_at (suc k) [] h = cc
comma_at zero (b ∷ bs) h = (omega arith, is_44 b h)
comma_at (suc k) (b ∷ bs) h = let r = comma_at k bs h in (omega (arith, r.0), r.1)

-- what stands behind the byte at a place
behind_byte : (k : ℕ) (text : List ℕ) → k < length text → get_or text k 0 ≡ 44 → drop k text ≡ 44 ∷ drop 1 (drop k text)
behind_byte zero [] room e = absurd (omega (arith, room))
behind_byte (suc k) [] room e = absurd (omega (arith, room))
behind_byte zero (b ∷ bs) room e = ap (λ x. x ∷ bs) e
behind_byte (suc k) (b ∷ bs) room e = behind_byte k bs (omega (arith, room)) e

stops_at : (b : ℕ) (bs rest : List ℕ) → rest ≡ b ∷ bs → b ≡ 44 → StopsFor is_word_byte rest
stops_at b bs rest e h = subst (λ (r : List ℕ). StopsFor is_word_byte r) (sym e) (comma_no_word b h)

-- a text that begins with a name and a comma
pub front_named : (name text : List ℕ) → is_name name ≡ true → length name < length text → get_or text (length name) 0 ≡ 44 → take (length name) text ≡ name
    → IsNamed name text (drop 1 (drop (length name) text))
front_named name text known room comma front =
    let n = length name in
    let rest : drop n text ≡ 44 ∷ drop 1 (drop n text) = behind_byte n text room comma in
    let whole : name ++ drop n text ≡ text = ap (λ (f : List ℕ). f ++ drop n text) (sym front) ∙ take-append-drop n text in
    let size : prefix_len is_word_byte text ≡ n = ap (prefix_len is_word_byte) (sym whole) ∙ front_stops is_word_byte name (drop n text) (name_passes name known) (stops_at 44 (drop 1 (drop n text)) (drop n text) rest refl) in
    record {
      known = known;
      word = sym front ∙ ap (λ k. take k text) (sym size);
      behind = ap (λ k. drop k text) size ∙ rest;
    }

-- what holds of a text that begins with a name and a comma
record Front (name text : List ℕ) : Type 0 where
  whole : name ≡ word_of text
  size : length name ≡ prefix_len is_word_byte text
  room : length name < length text
  comma : get_or text (length name) 0 ≡ 44

front_of : (name text : List ℕ) → is_named name text ≡ true → Front name text
front_of name text h =
    let k = prefix_len is_word_byte text in
    let at = comma_at k text (and_left (begins_comma (behind_word text)) (bytes_eq name (word_of text)) h) in
    let same : name ≡ word_of text = (bytes_eq-Decides name (word_of text)).0 (and_right (begins_comma (behind_word text)) (bytes_eq name (word_of text)) h) in
    let size : length name ≡ k = ap length same ∙ length-prefix_len is_word_byte text in
    record {
      whole = same;
      size = size;
      room = omega (arith, size, at.0);
      comma = ap (λ n. get_or text n 0) size ∙ at.1;
    }

pub front_unnamed : (name text : List ℕ) → bytes_eq (take (length name) text) name ≡ false → is_named name text ≡ false
front_unnamed name text h = elim (flag (is_named name text)) [
  | inl is ↦
      let front = front_of name text is in
      let same : take (length name) text ≡ name = ap (λ k. take k text) front.size ∙ sym front.whole in
      absurd (clash (sym ((bytes_eq-Decides (take (length name) text) name).1 same) ∙ h))
  | inr plain ↦ plain
]

other_fails : (a b : Bool) → a ≡ true → (a && b) ≡ false → b ≡ false
other_fails true b h k = k
other_fails false b h k = cc

-- the first stream with whose name and a comma a text begins
pub stream_found : (streams : List Shape) (text : List ℕ) (i : ℕ) (name rest : List ℕ) → i < length streams → name ≡ (shape_at streams i).name → IsNamed name text rest
    → ((k : ℕ) → k < i → is_named (shape_at streams k).name text ≡ false) → HasStream streams text i rest
stream_found streams text i name rest room is h before =
    let comma : begins_comma (behind_word text) ≡ true = ap begins_comma h.behind in
    record {
      known = subst (λ (n : List ℕ). IsName n) h.word h.known;
      number = sym (number-found streams (word_of text) i room ((bytes_eq-Decides (shape_at streams i).name (word_of text)).1 (sym is ∙ h.word))
          (λ k lt. other_fails (begins_comma (behind_word text)) (bytes_eq (shape_at streams k).name (word_of text)) comma (before k lt)));
      behind = h.behind;
    }
