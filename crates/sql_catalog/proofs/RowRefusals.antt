-- Which rows are refused, and why.
use Rattle.std.proofs.Common.{◌≡◌, ℕ, ◌<◌, Bool, true, false, cond, not, ◌&&◌, ◌==◌, nat_lt, nat_le, List, length, refl, ap, sym, ◌∙◌, is_some, arith}
use Rattle.std.specs.declared.option.Option.TheVariants.{Some}
use Rattle.std.specs.declared.result.Result.TheVariants.{Err}
use Rattle.std.proofs.lemmas.Bool.Decides.{nat_tests}
use Rattle.sql_text.specs.Word.{is_word, word_of}
use Rattle.sql_text.specs.Key.{key_of}
use Rattle.sql_text.specs.Name.{is_name}
use Rattle.sql_text.proofs.Fronts.{and_left, and_right}
use Rattle.sql_catalog.specs.declared.column.ColumnDef.{ColumnDef}
use Rattle.sql_catalog.specs.Streams.{Shape, stream_number, shape_at}
use Rattle.sql_catalog.specs.Rows.{row_of, row_for, row_with, fields_of, entry_of, values_of}
use Rattle.sql_catalog.specs.declared.row_error.RowError.TheVariants.{Syntax, Limit, Arity}

differs : (n m : ℕ) → m < n → (n == m) ≡ false
differs n m h = grind (arith, nat_tests)

-- more fields than columns
pub too_many : (stream : ℕ) (columns : List ColumnDef) (fields : List (List ℕ)) → length columns < length fields → Err Arity ≡ row_with stream columns fields
too_many stream columns fields more = sym (ap (λ t. cond t (entry_of stream columns (values_of fields)) (Err Arity)) (differs (length fields) (length columns) more))

not_true : (b : Bool) → not b ≡ true → b ≡ false
not_true true h = cc
not_true false h = refl

not_longer : (n : ℕ) → nat_le n 24 ≡ true → nat_lt 24 n ≡ false
not_longer n h = grind (arith, nat_tests)

not_reserved : (word : List ℕ) → is_name word ≡ true → is_some (key_of word) ≡ false
unfolding is_name
not_reserved word h = not_true (is_some (key_of word)) (and_right (is_word word) (not (is_some (key_of word))) (and_left (is_word word && not (is_some (key_of word))) (nat_le (length word) 24) h))

not_long : (word : List ℕ) → is_name word ≡ true → nat_lt 24 (length word) ≡ false
unfolding is_name
not_long word h = not_longer (length word) (and_right (is_word word && not (is_some (key_of word))) (nat_le (length word) 24) h)

-- a line whose first word is a stream's name is a row of this stream, or refused for its fields
pub named_row : (streams : List Shape) (line word : List ℕ) (fields : List (List ℕ)) (stream : ℕ) (columns : List ColumnDef) → word ≡ word_of line → fields_of line ≡ fields → Some stream ≡ stream_number streams word
    → columns ≡ (shape_at streams stream).columns → is_name word ≡ true → row_with stream columns fields ≡ row_of streams line
unfolding row_of
named_row streams line word fields stream columns is_word is_fields number is_columns name =
    let found : row_with stream columns fields ≡ row_for streams (fields_of line) (stream_number streams (word_of line)) =
    ap (λ cs. row_with stream cs fields) is_columns
    ∙ ap (row_with stream (shape_at streams stream).columns) (sym is_fields)
    ∙ ap (row_for streams (fields_of line)) (number ∙ ap (stream_number streams) is_word) in
    let plain : is_some (key_of (word_of line)) ≡ false = ap (λ w. is_some (key_of w)) (sym is_word) ∙ not_reserved word name in
    let short : nat_lt 24 (length (word_of line)) ≡ false = ap (λ (w : List ℕ). nat_lt 24 (length w)) (sym is_word) ∙ not_long word name in
    found ∙ sym (ap (λ t. cond t (Err Syntax) (cond (nat_lt 24 (length (word_of line))) (Err Limit) (row_for streams (fields_of line) (stream_number streams (word_of line))))) plain
    ∙ ap (λ t. cond t (Err Limit) (row_for streams (fields_of line) (stream_number streams (word_of line)))) short)
