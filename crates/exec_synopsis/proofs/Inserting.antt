-- Taking a row into its cell makes the cells of a box those of the history and the row.
use Rattle.std.proofs.Common.{◌≡◌, ◌≢◌, ℕ, ◌+◌, ◌*◌, ◌<◌, ◌&&◌, ◌==◌, nat_eq, cond, Bool, true, false, List, [], ◌∷◌, ◌++◌, length, get_or, sym, ap, ◌∙◌, subst, arith, slice_index_or, IsTrue, inl, inr, get_or-set_same, get_or-set_other, length-set}
use Rattle.std.proofs.lemmas.Bool.Decides.{nat_tests}
use Rattle.sem_query.specs.declared.cell.Cell.{Cell}
use Rattle.sem_query.specs.declared.cell.Cell.TheVariants.{Empty}
use Rattle.sem_query.specs.declared.plan.PartPlan.{PartPlan}
use Rattle.sem_query.specs.Query.{QueryValue}
use Rattle.sem_query.specs.Meaning.{Arrival, by_column}
use Rattle.sem_query.specs.Plan.{stream_at, dims_at}
use Rattle.sem_query.specs.Admission.{admits}
use Rattle.sem_query.specs.Cells.{content, cell_of, dim_values, row_place}
use Rattle.sem_query.specs.Combinations.{read_from}
use Rattle.sem_query.specs.Merge.{merged}
use Rattle.sem_laws.proofs.Tests.{true_or_false, not_both, nat_true}
use Rattle.sem_laws.proofs.Inverse.{places-are-inverse, admitted-rows-have-places}
use Rattle.sem_laws.proofs.Inserting.{inserts-row}
use Rattle.exec_pool.specs.Extents.{cells_of}
use Rattle.exec_pool.proofs.CallerLemmas.{cells_of_with}
use Rattle.exec_synopsis.specs.Premises.{row_cell}
use Rattle.exec_synopsis.specs.Inserting.{AreCellsOf, cells_with_row, TakesRow, InsertTakesRow}
use Rattle.exec_synopsis.proofs.PlanLaws.{laid-from}

module _ (q : QueryValue) (part : PartPlan) (place : ℕ) (history : List Arrival) (r : Arrival) (cells : List Cell) (here : r.stream ≡ slice_index_or q.from place 0) (admitted : IsTrue (admits q part place (by_column r.values))) (old : AreCellsOf q history part place cells) where
  -- the place of the row in the box
  abbrev own : ℕ
  own = row_place (dims_at part place) (by_column r.values)

  -- a cell of the history, with the row where it lies there
  abbrev goes : ℕ → Bool → Cell
  goes i t = cond t (merged (stream_at part place).kind (cell_of q history part place i) (content (stream_at part place).kind (r.values ∷ []))) (cell_of q history part place i)

  -- it lies there where the place is its own
  lies : (i : ℕ) → cell_of q (history ++ r ∷ []) part place i ≡ goes i (nat_eq own i)
  lies i =
      let s : (r.stream == slice_index_or q.from place 0) ≡ true = grind (arith, nat_tests) in
      inserts-row q history r part place i
      ∙ (λ k. goes i (s k && (admitted k && nat_eq own i)))

  at_own : (i : ℕ) → i < (stream_at part place).size → row_cell part place r.values < length cells → nat_eq own i ≡ true
      → read_from (cells_with_row part place r.values cells) part place i ≡ goes i (nat_eq own i)
  at_own i l w t =
      let e : i ≡ own = sym (nat_true own i t) in
      let was : get_or cells (row_cell part place r.values) Empty ≡ cell_of q history part place i
      = ap (λ k. get_or cells ((stream_at part place).base + k) Empty) (sym e) ∙ old i l in
      ap (λ k. get_or (cells_with_row part place r.values cells) ((stream_at part place).base + k) Empty) e
      ∙ get_or-set_same cells (row_cell part place r.values) _ Empty w
      ∙ ap (λ c. merged (stream_at part place).kind c (content (stream_at part place).kind (r.values ∷ []))) was
      ∙ ap (goes i) (sym t)

  at_other : (i : ℕ) → i < (stream_at part place).size → nat_eq own i ≡ false
      → read_from (cells_with_row part place r.values cells) part place i ≡ goes i (nat_eq own i)
  at_other i l t =
      let ne : (stream_at part place).base + i ≢ row_cell part place r.values = λ e. (let o : nat_eq own i ≡ true = grind (arith, nat_tests) in not_both _ o t) in
      get_or-set_other cells (row_cell part place r.values) ((stream_at part place).base + i) _ Empty ne ∙ old i l ∙ ap (goes i) (sym t)

  takes : row_cell part place r.values < length cells → TakesRow q history r part place cells (cells_with_row part place r.values cells)
  takes w = record {
    grown = λ i l. elim (true_or_false (nat_eq own i)) [ inl t ↦ at_own i l w t | inr t ↦ at_other i l t ] ∙ sym (lies i);
    count = length-set cells (row_cell part place r.values) _;
    others = λ n ne. get_or-set_other cells (row_cell part place r.values) n _ Empty ne;
  }

pub insert-takes-row : InsertTakesRow
insert-takes-row q part place before after e history r l several held here admitted is old =
    let laid = laid-from q part held.walked (64 * e.pages) held.within several place l in
    let below = (places-are-inverse (dims_at part place)).below (dim_values (dims_at part place) (by_column r.values)) (admitted-rows-have-places q part place (by_column r.values) admitted) in
    let w : row_cell part place r.values < length (cells_of before e) = omega (arith, below, laid.size, laid.room, held.live.pages) in
    subst (λ (cells : List Cell). TakesRow q history r part place (cells_of before e) cells)
    (sym (ap (λ p. cells_of p e) is ∙ cells_of_with before e (cells_with_row part place r.values (cells_of before e)) held.live))
    (takes q part place history r (cells_of before e) here admitted old w)
