-- Bases: what a query goes on from in place of a history, and what a base and the rows since come to.
use Rattle.std.specs.Prelude.{ℕ, ◌+◌, ◌^◌, List, [], ◌∷◌, length, replicate, ℤ, if◌then◌else◌}
use Rattle.sem_query.specs.declared.cell.Cell.{Cell}
use Rattle.sem_query.specs.declared.plan.PartPlan.{PartPlan}
use Rattle.sem_query.specs.Query.{QueryValue}
use Rattle.sem_query.specs.Tuples.{sorted, at_most}
use Rattle.sem_query.specs.Meaning.{Arrival}
use Rattle.sem_query.specs.Cells.{printed}
use Rattle.sem_query.specs.Combinations.{read_from}
use Rattle.sem_query.specs.Future.{future}
use Rattle.sem_query.specs.Merge.{merged_table}
use Rattle.sem_query.specs.Sharing.{Box, sizes_in, synopsis_in, merge_in}

-- the cells, the table of printed tuples, and how many rows were given
pub record Base : Type 0 where
  pub cells : List Cell
  pub table : List (List ℤ)
  pub given : ℕ

-- after creation: empty cells, an empty table, and no rows
abbrev pub first_base : List Box → Base
first_base list = record { cells = replicate (sizes_in list) Cell.Empty; table = []; given = 0 }

-- the base that a history comes to
abbrev pub base_of : QueryValue → List Box → List Arrival → Base
base_of q list history = record { cells = synopsis_in q list history; table = printed q history; given = length history }

-- what is answered to a row from a base: each tuple at most 2^127 times
abbrev pub answers_from : QueryValue → List PartPlan → Base → Arrival → List (List ℤ)
answers_from q plan base r = sorted (at_most (2 ^ 127) (future q plan (read_from base.cells) base.table r))

-- the table after a row: with DISTINCT it takes the tuples that are answered
abbrev pub table_with : QueryValue → List PartPlan → List Cell → List (List ℤ) → Arrival → List (List ℤ)
table_with q plan cells table r = if q.distinct then merged_table table (future q plan (read_from cells) table r) else []

-- the table after rows, one after the other
unfoldable pub table_after : QueryValue → List PartPlan → List Box → List Cell → List (List ℤ) → List Arrival → List (List ℤ)
table_after q plan list cells table [] = table
table_after q plan list cells table (r ∷ rows) =
    table_after q plan list (merge_in list cells (synopsis_in q list (r ∷ []))) (table_with q plan cells table r) rows

-- what a base and the rows since come to: the cells are the merge with the synopsis of these rows, and the table has the tuples that
-- were answered since
abbrev pub kept : QueryValue → List PartPlan → List Box → Base → List Arrival → Base
kept q plan list base history = record {
  cells = merge_in list base.cells (synopsis_in q list history);
  table = table_after q plan list base.cells base.table history;
  given = base.given + length history;
}

-- what a base comes to by one row
abbrev pub kept_row : QueryValue → List PartPlan → List Box → Base → Arrival → Base
kept_row q plan list base r = record {
  cells = merge_in list base.cells (synopsis_in q list (r ∷ []));
  table = table_with q plan base.cells base.table r;
  given = base.given + 1;
}
