use Rattle.std.proofs.Common.{◌≡◌, ◌∙◌, sym, ap, subst, arith, ℕ, ℤ, List, Some, Option, length, slice_get}
use Rattle.std.specs.Int.{bit_at}
use Rattle.exec_query_index.specs.declared.boxes.QueryBox.{QueryBox}
use Rattle.exec_query_index.specs.declared.column.Column.{Column}
use Rattle.exec_query_index.specs.declared.candidates.Candidates.{Candidates}
use Rattle.exec_query_index.specs.Boxes.{IsInside}
use Rattle.exec_query_index.specs.Buckets.{AreFor, AreMarked, narrowed}
use Rattle.exec_query_index.proofs.Marked.{first, held_more, listed, marked}
use Rattle.exec_query_index.proofs.candidates.Candidates.of.Goals as goal

-- a row in a box is marked in all columns
all_marked : (c : Candidates) (columns : List Column) → columns ≡ c.columns.items → (boxes : List (Option QueryBox)) → AreFor boxes c
    → (row : List ℤ) (k : ℕ) (box : QueryBox) → slice_get boxes k ≡ Some (Some box) → IsInside box row → AreMarked k row columns
all_marked c columns same boxes are row k box there inside =
    subst (λ (xs : List Column). AreMarked k row xs) (sym same)
    (λ i column here machine. marked boxes column (are.columns i column here) k box there row machine inside)

pub returns-then-columns-eq1-clause-held : goal.returns-then-columns-eq1-clause-held
returns-then-columns-eq1-clause-held c = λ boxes are k box there inside.
    let columns : List Column = c.as_slice-columns.result.now in
    let one : length columns ≡ 1 = c.if-columns-eq1.true in
    held_more c.args.row.now columns c.args.self.now.named c.of-own.result.0 0 _ (omega (arith, one)) c.of-own.ensures.value c.of-own.ensures.machine k
    (all_marked c.args.self.now columns c.as_slice-columns.ensures.value boxes are c.args.row.now k box there inside) (are.named.all k box there)

pub returns-then-columns-eq1-clause-only : goal.returns-then-columns-eq1-clause-only
returns-then-columns-eq1-clause-only c = λ boxes are k h. are.named.only k (first c.args.self.now.named c.of-own.result.0 k h)

pub returns-clause-held : goal.returns-clause-held
returns-clause-held c = λ boxes are k box there inside.
    c.narrowed.ensures.held k
    (all_marked c.args.self.now c.as_slice-columns.result.now c.as_slice-columns.ensures.value boxes are c.args.row.now k box there inside)
    (are.named.all k box there)

pub returns-clause-only : goal.returns-clause-only
returns-clause-only c = λ boxes are k h.
    listed boxes c.args.self.now are c.args.row.now k
    (subst (λ (w : ℕ). bit_at w k ≡ 1) (c.narrowed.ensures.value ∙ ap (narrowed c.args.self.now.named c.args.row.now) c.as_slice-columns.ensures.value) h)
