-- Fields of digits alone, by the marks of sixteen bytes.
use Rattle.std.proofs.Common.{◌≡◌, ◌≢◌, ℕ, ◌+◌, ◌-◌, ◌%◌, ◌<◌, ◌≤◌, bit_and, Option, Some, None, List, [], length, map, take, drop, get_or, length-drop, refl, ap, sym, ◌∙◌, subst, arith}
use Rattle.std.specs.List.{prefix_len}
use Rattle.std.proofs.lemmas.List.{drop-drop, drop-take, length-take}
use lib.Lanes.{mask_l}
use lib.Count.{count_trailing_zeros}
use Rattle.sql_text.specs.Word.{is_digit}
use Rattle.io_row_reader.specs.Ahead.{IsEnded}
use Rattle.std.specs.Prelude.{IfSome}
use Rattle.io_row_reader.specs.Counted.{HasFields, IsSomeInteger}
use Rattle.io_row_reader.proofs.DigitLanes.{run_whole}
use Rattle.io_row_reader.proofs.FieldsAhead.{fields_begin}
use Rattle.io_row_reader.proofs.PairEnds.{IsMarked, MarksFrom, mark_next, marks_begin, marks_more, other}
use Rattle.io_row_reader.proofs.RowsCounted.{SomeFieldsTo, some_integer, some_joined, some_more}

-- where digits stand between two places by the marks of sixteen bytes, they are an integer
pub some_marked : (text : List ℕ) (start place end : ℕ) → IsMarked (take 16 (drop start text)) place end → start + 16 ≤ length text → end ≢ place → IsSomeInteger text (start + place) (start + end)
some_marked text start place end h room some =
    let rest = drop start text in
    let here : place + (16 - place) ≡ 16 = omega (arith, h.run, h.within) in
    let behind : drop place (take 16 rest) ≡ take (16 - place) (drop place rest) = ap (λ n. drop place (take n rest)) (sym here) ∙ drop-take place (16 - place) rest in
    let run : prefix_len is_digit (take (16 - place) (drop place rest)) ≡ end - place = ap (prefix_len is_digit) (sym behind) ∙ omega (arith, h.run) in
    let all : prefix_len is_digit (drop place rest) ≡ end - place = sym (run_whole is_digit (16 - place) (drop place rest) (omega (arith, run, h.run, h.within))) ∙ run in
    let same : drop place rest ≡ drop (start + place) text = drop-drop place start text in
    let digits : prefix_len is_digit (drop (start + place) text) ≡ end - place = ap (prefix_len is_digit) (sym same) ∙ all in
    some_integer text (start + place) (start + end) (omega (arith, digits, h.run)) (omega (arith, h.within, room)) (omega (arith, h.run, some), omega (arith, h.within))

-- the fields of digits alone that were read by the marks of sixteen bytes, and the marks that are left
pub record MarkedFields (text : List ℕ) (start place read marks : ℕ) : Type 0 where
  pub marked : MarksFrom (take 16 (drop start text)) place marks
  pub are : SomeFieldsTo text start (start + place) read
  pub few : read ≤ place
  pub near : place ≤ 16

pub marked_begin : (text : List ℕ) (start marks : ℕ) → start + 16 ≤ length text → marks ≡ mask_l (map other (take 16 (drop start text))) → MarkedFields text start 0 0 marks
marked_begin text start marks room are =
    let rest = drop start text in
    let long : length (take 16 rest) ≡ 16 = omega (arith, length-take 16 rest, length-drop start text, room) in
    let here : start + 0 ≡ start = omega arith in
    record {
      marked = marks_begin (take 16 rest) marks long are;
      are = subst (λ n. SomeFieldsTo text start n 0) (sym here) (record { values = []; size = refl; are = fields_begin text start [] (omega (arith, room)) refl });
      few = omega arith;
      near = omega arith;
    }

pub marked_more : (text : List ℕ) (start place read marks : ℕ) → IsEnded text → MarkedFields text start place read marks → start + 16 ≤ length text → 0 < marks → count_trailing_zeros 64 marks ≢ place
    → get_or text (start + count_trailing_zeros 64 marks) 0 ≡ 44 → MarkedFields text start (count_trailing_zeros 64 marks + 1) (read + 1) (bit_and marks ((marks + 18446744073709551615) % 18446744073709551616))
marked_more text start place read marks ended h room left some comma =
    let end = count_trailing_zeros 64 marks in
    let next = mark_next (take 16 (drop start text)) place marks h.marked left in
    let there : start + end + 1 ≡ start + (end + 1) = omega arith in
    record {
      marked = marks_more (take 16 (drop start text)) place marks h.marked left;
      are = subst (λ n. SomeFieldsTo text start n (read + 1)) there (some_more text start (start + place) (start + end) read ended h.are (some_marked text start place end next room some) comma);
      few = omega (arith, h.few, next.run);
      near = omega (arith, next.within);
    }

-- the fields that were read so, and those that were read behind them
pub marked_rest : (text : List ℕ) (start place read marks width : ℕ) → MarkedFields text start place read marks → read < width → (o : Option ℕ) → IfSome o (λ end. HasFields text (start + place) end (width - read))
    → IfSome o (λ end. HasFields text start end width)
marked_rest text start place read marks width h few None g = tt
marked_rest text start place read marks width h few (Some end) g =
    let all : read + (width - read) ≡ width = omega (arith, few) in
    subst (λ n. HasFields text start end n) all (some_joined text start (start + place) end read (width - read) h.are g)
