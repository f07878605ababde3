-- How synopses, tables and answers grow with a history.
use Rattle.std.specs.Prelude.{◌≡◌, ℕ, ◌+◌, true, ◌&&◌, ◌==◌, nat_eq, if◌then◌else◌, ℤ, List, [], ◌∷◌, ◌++◌, filter, length}
use Rattle.std.specs.List.{slice_index_or}
use Rattle.sem_query.specs.declared.cell.Cell.{Cell}
use Rattle.sem_query.specs.declared.plan.PartPlan.{PartPlan}
use Rattle.sem_query.specs.Query.{QueryValue, IsWithinLimits}
use Rattle.sem_query.specs.Tuples.{is_same}
use Rattle.sem_query.specs.Meaning.{Arrival, by_column, answers, new_answers}
use Rattle.sem_query.specs.Plan.{stream_at, dims_at, Follow}
use Rattle.sem_query.specs.Admission.{admits}
use Rattle.sem_query.specs.Cells.{row_place, content, cell_of, synopsis, printed}
use Rattle.sem_query.specs.Combinations.{read_from}
use Rattle.sem_query.specs.Numbers.{cell_count}
use Rattle.sem_query.specs.Merge.{merged, merge, merged_table}
use Rattle.sem_query.specs.Reordering.{Reorders}
use Rattle.sem_laws.specs.Places.{IsBox}

-- how often a tuple stands in a list
abbrev pub occurs : List ℤ → List (List ℤ) → ℕ
occurs t us = length (filter (is_same t) us)

-- how often a tuple is answered along the rows that follow a history
abbrev pub answered : QueryValue → List ℤ → List Arrival → List Arrival → ℕ
answered q t history [] = 0
answered q t history (r ∷ later) = occurs t (new_answers q history r) + answered q t (history ++ r ∷ []) later

-- a row changes the one cell of its box that it lies in, where its stream stands there and the part admits it, and no other
abbrev pub InsertsRow : Type 0
InsertsRow =
    (q : QueryValue) (history : List Arrival) (r : Arrival) (part : PartPlan) (place i : ℕ)
    → cell_of q (history ++ r ∷ []) part place i
    ≡ (if (r.stream == slice_index_or q.from place 0) && (admits q part place (by_column r.values) && nat_eq (row_place (dims_at part place) (by_column r.values)) i)
    then merged (stream_at part place).kind (cell_of q history part place i) (content (stream_at part place).kind (r.values ∷ []))
    else cell_of q history part place i)

-- the synopsis of one history after another is the merge of their synopses
abbrev pub SynopsesMerge : Type 0
SynopsesMerge =
    (q : QueryValue) (plan : List PartPlan) (history later : List Arrival)
    → synopsis q plan (history ++ later) ≡ merge plan (synopsis q plan history) (synopsis q plan later)

-- merging in the synopsis of one row changes, in any cells, the one cell of each box that the row lies in, and no other
pub record MergesRow (q : QueryValue) (plan : List PartPlan) (cells : List Cell) (r : Arrival) : Type 0 where
  pub size : length (merge plan cells (synopsis q plan (r ∷ []))) ≡ cell_count plan
  pub at : (n : ℕ) (part : PartPlan) (place i : ℕ) → IsBox plan n part place i
      → read_from (merge plan cells (synopsis q plan (r ∷ []))) part place i
      ≡ (if (r.stream == slice_index_or q.from place 0) && (admits q part place (by_column r.values) && nat_eq (row_place (dims_at part place) (by_column r.values)) i)
      then merged (stream_at part place).kind (read_from cells part place i) (content (stream_at part place).kind (r.values ∷ []))
      else read_from cells part place i)

-- this holds of all cells, whether or not they stand for a history
abbrev pub RowsMerge : Type 0
RowsMerge =
    (q : QueryValue) (plan : List PartPlan) → Follow 0 plan
    → (cells : List Cell) → length cells ≡ cell_count plan → (r : Arrival) → MergesRow q plan cells r

-- the printed tuples grow by the new answers
abbrev pub PrintedGrows : Type 0
PrintedGrows =
    (q : QueryValue) (history : List Arrival) (r : Arrival) → IsWithinLimits q → q.distinct ≡ true
    → printed q (history ++ r ∷ []) ≡ merged_table (printed q history) (new_answers q history r)

-- over a whole history each tuple is answered as often as it is an answer, with DISTINCT as it is printed, and reordering changes nothing
abbrev pub AnyInterleaving : Type 0
AnyInterleaving =
    (q : QueryValue) → IsWithinLimits q
    → ((history : List Arrival) (t : List ℤ)
    → answered q t [] history ≡ occurs t (if q.distinct then printed q history else answers q history))
    × ((g h : List Arrival) → Reorders g h → (t : List ℤ) → answered q t [] g ≡ answered q t [] h)
