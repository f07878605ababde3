-- Lines without blanks.
use Rattle.std.proofs.Common.{◌≡◌, ℕ, true, false, cond, not, ◌&&◌, ◌==◌, nat_le, List, [], ◌∷◌, ◌++◌, length, append-nil, ℤ, refl, ap, sym, ◌∙◌, is_some, arith}
use Rattle.std.specs.List.{list_all, prefix_len, slice_split}
use Rattle.std.proofs.lemmas.List.{take-append-drop}
use Rattle.std.proofs.lemmas.List.Folds.{list_all-append}
use Rattle.std.proofs.lemmas.Bool.Decides.{nat_tests}
use Rattle.sql_text.specs.Blank.{without_blanks_before, trimmed}
use Rattle.sql_text.specs.Word.{is_letter, is_word, is_word_byte, word_of, behind_word}
use Rattle.sql_text.specs.Key.{key_of}
use Rattle.sql_text.specs.Name.{is_name}
use Rattle.sql_text.proofs.Fronts.{and_left, and_both, all_weaker, front_passes}
use Rattle.sql_text.proofs.Trimmed.{is_no_blank, trimmed_between}
use Rattle.std.specs.declared.result.Result.TheVariants.{Ok}
use Rattle.sql_catalog.specs.Streams.{KeepsDomains, Shape, shape_at}
use Rattle.sql_catalog.specs.Rows.{HasStream, entry, is_comma, is_row_line, begins_comma, row_of, row_with}
use Rattle.sql_catalog.proofs.Fields.{fields_behind}
use Rattle.sql_catalog.proofs.RowRefusals.{named_row}
use Rattle.sql_parser.specs.declared.line.LineKind.TheVariants as kinds
use Rattle.sql_parser.specs.LineKind.{stripped, kind_of_line, begins_with, without_return}
use Rattle.io_row_reader.specs.Plain.{is_plain_byte, IsPlain, IsPlainRow}

plain_no_blank : (b : ℕ) → is_plain_byte b ≡ true → is_no_blank b ≡ true
plain_no_blank b h = grind (arith, nat_tests)

pub word_plain : (b : ℕ) → is_word_byte b ≡ true → is_plain_byte b ≡ true
word_plain b h = grind (arith, nat_tests)

-- of a plain text all is left
stays_whole : (text : List ℕ) → IsPlain text → trimmed text ≡ text
stays_whole text h =
    let bare : list_all is_no_blank text ≡ true = all_weaker is_plain_byte is_no_blank plain_no_blank text h in
    ap trimmed (sym (append-nil text))
    ∙ trimmed_between [] text [] refl bare refl

letter_no_minus : (b : ℕ) → is_letter b ≡ true → (b == 45) ≡ false
letter_no_minus b h = grind (arith, nat_tests)

-- a line with a word and a comma behind it is a row line
row_line_kind : (word fields : List ℕ) → is_word word ≡ true → behind_word (word ++ 44 ∷ fields) ≡ 44 ∷ fields → kind_of_line (word ++ 44 ∷ fields) ≡ kinds.RowLine
row_line_kind [] fields h behind = cc
row_line_kind (b ∷ bs) fields h behind =
    let letter : is_letter b ≡ true = and_left (is_letter b) (list_all is_word_byte bs) h in
    let line : List ℕ = b ∷ (bs ++ 44 ∷ fields) in
    let row : is_row_line line ≡ true = ap (λ t. t && begins_comma (without_blanks_before (behind_word line))) letter ∙ ap (λ t. begins_comma (without_blanks_before t)) behind in
    ap (λ t. cond (t && begins_with 45 (bs ++ 44 ∷ fields)) kinds.Nothing (cond (is_row_line line) kinds.RowLine kinds.StatementLine)) (letter_no_minus b letter)
    ∙ ap (λ t. cond t kinds.RowLine kinds.StatementLine) row

pub name_word : (word : List ℕ) → is_name word ≡ true → is_word word ≡ true
unfolding is_name
name_word word h = and_left (is_word word) (not (is_some (key_of word))) (and_left (is_word word && not (is_some (key_of word))) (nat_le (length word) 24) h)

-- a line that is a row of a stream without blanks, where one CR at its end is dropped
pub plain_row : (streams : List Shape) (line text fields : List ℕ) (stream : ℕ) (values : List ℤ) → text ≡ without_return line → HasStream streams text stream fields
    → row_with stream (shape_at streams stream).columns (slice_split is_comma fields) ≡ Ok (entry stream values) → KeepsDomains streams stream values → IsPlain fields
    → IsPlainRow streams line stream values
plain_row streams line text fields stream values is h row domains rest =
    let word : List ℕ = word_of text in
    let whole : text ≡ word ++ 44 ∷ fields = sym (take-append-drop (prefix_len is_word_byte text) text) ∙ ap (λ (b : List ℕ). word ++ b) h.behind in
    let front : IsPlain word = all_weaker is_word_byte is_plain_byte word_plain word (front_passes is_word_byte text) in
    let plain : IsPlain text = ap (list_all is_plain_byte) whole ∙ list_all-append is_plain_byte word (44 ∷ fields) ∙ and_both (list_all is_plain_byte word) (list_all is_plain_byte fields) front rest in
    let left : stripped line ≡ text = ap trimmed (sym is) ∙ stays_whole text plain in
    record {
      kind = ap kind_of_line (left ∙ whole) ∙ row_line_kind word fields (name_word word h.known) (ap behind_word (sym whole) ∙ h.behind);
      row = ap (row_of streams) left ∙ sym (named_row streams text word (slice_split is_comma fields) stream (shape_at streams stream).columns refl
          (fields_behind text (44 ∷ fields) [] (slice_split is_comma fields) (sym h.behind) refl) (sym h.number) refl h.known) ∙ row;
      domains = domains;
    }
