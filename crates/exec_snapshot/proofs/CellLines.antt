-- The lines for cells.
use Rattle.std.proofs.Common.{◌≡◌, ℕ, zero, suc, ◌+◌, List, [], ◌∷◌, ◌++◌, get_or, take, map, refl, sym, ap, ◌∙◌, subst, arith, append_assoc, append-nil}
use Rattle.std.proofs.lemmas.List.{map-append}
use Rattle.io_streams.specs.Sink.{SinkState, Wrote, BrokeOff}
use Rattle.io_streams.proofs.Writing.{Wrote-nil, Wrote-trans, BrokeOff-then, BrokeOff-stop}
use Rattle.sem_query.specs.declared.cell.Cell.{Cell}
use Rattle.sql_parser.specs.declared.tree.Statement.{Statement}
use Rattle.sql_printer.specs.Printed.{printed_form}
use Rattle.exec_snapshot.specs.Lines.{content_in, cell_statement, cell_statements, text_of_lines, statements_text}
use Rattle.exec_snapshot.proofs.LineTexts.{lines_append}

-- the text of statements, and of others
pub text_append : (xs ys : List Statement) → statements_text (xs ++ ys) ≡ statements_text xs ++ statements_text ys
text_append xs ys = ap (λ ls. flat_lines ls) (map-append printed_form xs ys) ∙ lines_append (map printed_form xs) (map printed_form ys)
  where
    flat_lines : List (List ℕ) → List ℕ
    flat_lines ls = text_of_lines ls

-- the statement for the cell at a place
abbrev pub statement_at : List ℕ → ℕ → List Cell → ℕ → List Statement
statement_at name from cells i = cell_statement name (from + i) (content_in (get_or cells i Cell.Empty))

from_none : (name : List ℕ) (cells : List Cell) (i : ℕ) → statement_at name 0 cells i ≡ cell_statement name i (content_in (get_or cells i Cell.Empty))
from_none name cells i = ap (λ n. cell_statement name n (content_in (get_or cells i Cell.Empty))) (same i)
  where
    same : (i : ℕ) → 0 + i ≡ i
    same i = omega arith

-- those up to one of the cells, that for this one, and the others
pub record IsCutAt (name : List ℕ) (from : ℕ) (cells : List Cell) (i : ℕ) : Type 0 where
  pub rest : List Statement
  pub more : cell_statements name from (take (suc i) cells) ≡ cell_statements name from (take i cells) ++ statement_at name from cells i
  pub whole : cell_statements name from cells ≡ cell_statements name from (take (suc i) cells) ++ rest

no_cells : (n : ℕ) → take {A = Cell} n [] ≡ []
no_cells zero = refl
no_cells (suc n) = refl

cut_none : (name : List ℕ) (from i : ℕ) → IsCutAt name from [] i
unfolding cell_statements
cut_none name from i = record {
  rest = [];
  more = ap (cell_statements name from) (no_cells (suc i)) ∙ sym (ap (λ cs. cell_statements name from cs ++ []) (no_cells i));
  whole = sym (ap (λ cs. cell_statements name from cs ++ []) (no_cells (suc i)));
}

cut_first : (name : List ℕ) (from : ℕ) (c : Cell) (cells : List Cell) → IsCutAt name from (c ∷ cells) 0
unfolding cell_statements
cut_first name from c cells = record {
  rest = cell_statements name (from + 1) cells;
  more = append-nil (cell_statement name from (content_in c)) ∙ ap (λ n. cell_statement name n (content_in c)) (start from);
  whole = ap (λ ls. ls ++ cell_statements name (from + 1) cells) (sym (append-nil (cell_statement name from (content_in c))));
}
  where
    start : (n : ℕ) → n ≡ n + 0
    start n = omega arith

cut_later : (name : List ℕ) (from : ℕ) (c : Cell) (cells : List Cell) (i : ℕ) → IsCutAt name (from + 1) cells i → IsCutAt name from (c ∷ cells) (suc i)
unfolding cell_statements
cut_later name from c cells i rest =
    let one = cell_statement name from (content_in c) in
    record {
      rest = rest.rest;
      more = ap (λ ls. one ++ ls) rest.more ∙ sym (append_assoc one (cell_statements name (from + 1) (take i cells)) (statement_at name (from + 1) cells i))
          ∙ ap (λ n. (one ++ cell_statements name (from + 1) (take i cells)) ++ cell_statement name n (content_in (get_or cells i Cell.Empty))) (next from i);
      whole = ap (λ ls. one ++ ls) rest.whole ∙ sym (append_assoc one (cell_statements name (from + 1) (take (suc i) cells)) rest.rest);
    }
  where
    next : (n i : ℕ) → (n + 1) + i ≡ n + suc i
    next n i = omega arith

pub cut_at : (name : List ℕ) (from : ℕ) (cells : List Cell) (i : ℕ) → IsCutAt name from cells i
cut_at name from [] i = cut_none name from i
cut_at name from (c ∷ cells) zero = cut_first name from c cells
cut_at name from (c ∷ cells) (suc i) = cut_later name from c cells i (cut_at name (from + 1) cells i)

-- the lines for the cells up to one were written, and then that for this one
pub wrote_cell : (name : List ℕ) (cells : List Cell) (i : ℕ) (a b c : SinkState) → Wrote a b (statements_text (cell_statements name 0 (take i cells))) → Wrote b c (statements_text (cell_statement name i (content_in (get_or cells i Cell.Empty))))
    → Wrote a c (statements_text (cell_statements name 0 (take (i + 1) cells)))
wrote_cell name cells i a b c p q =
    subst (λ n. Wrote a c (statements_text (cell_statements name 0 (take n cells)))) (next i)
    (subst (λ ls. Wrote a c (statements_text ls)) (sym (cut_at name 0 cells i).more)
    (subst (Wrote a c) (sym (text_append (cell_statements name 0 (take i cells)) (statement_at name 0 cells i))) (Wrote-trans a b c _ _ p (subst (λ ls. Wrote b c (statements_text ls)) (sym (from_none name cells i)) q))))
  where
    next : (i : ℕ) → suc i ≡ i + 1
    next i = omega arith

-- or that for this one broke off
pub broke_cell : (name : List ℕ) (cells : List Cell) (i : ℕ) (a b c : SinkState) → Wrote a b (statements_text (cell_statements name 0 (take i cells))) → BrokeOff b c (statements_text (cell_statement name i (content_in (get_or cells i Cell.Empty))))
    → BrokeOff a c (statements_text (cell_statements name 0 cells))
broke_cell name cells i a b c p q =
    let cut = cut_at name 0 cells i in
    let front = cell_statements name 0 (take i cells) in
    let one = statement_at name 0 cells i in
    let e : statements_text (cell_statements name 0 cells) ≡ (statements_text front ++ statements_text one) ++ statements_text cut.rest
    = ap statements_text (cut.whole ∙ ap (λ ls. ls ++ cut.rest) cut.more) ∙ text_append (front ++ one) cut.rest ∙ ap (λ t. t ++ statements_text cut.rest) (text_append front one) in
    subst (BrokeOff a c) (sym e) (BrokeOff-stop a c _ _ (BrokeOff-then a b c _ _ p (subst (λ ls. BrokeOff b c (statements_text ls)) (sym (from_none name cells i)) q)))

-- no cell was written yet
pub wrote_none : (name : List ℕ) (a : SinkState) → Wrote a a (statements_text (cell_statements name 0 []))
unfolding cell_statements
wrote_none name a = Wrote-nil a
