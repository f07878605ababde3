-- Merging two synopses of one plan, and two tables of printed tuples.
use Rattle.std.specs.Prelude.{◌+◌, List, [], ◌∷◌, ◌++◌, ℤ, int_lt, if◌then◌else◌}
use Rattle.sem_query.specs.declared.cell.Cell.{Cell}
use Rattle.sem_query.specs.declared.plan.Kind.{Kind}
use Rattle.sem_query.specs.declared.plan.PartPlan.{PartPlan}
use Rattle.sem_query.specs.Tuples.{sorted, distinct_tuples}
use Rattle.sem_query.specs.Plan.{stream_at}
use Rattle.sem_query.specs.Cells.{laid_out}

-- what a cell keeps that stands for the rows of two: an empty cell gives way, counts add, the lesser or the greater extreme stays
abbrev pub merged : Kind → Cell → Cell → Cell
merged kind Cell.Empty c = c
merged kind (Cell.Count m) (Cell.Count n) = Cell.Count (m + n)
merged (Kind.Least a) (Cell.Extreme x) (Cell.Extreme y) = Cell.Extreme (if int_lt y x then y else x)
merged (Kind.Greatest a) (Cell.Extreme x) (Cell.Extreme y) = Cell.Extreme (if int_lt x y then y else x)
merged kind c d = c

-- the kinds of the cells of a plan
abbrev pub kinds_of : List PartPlan → List Kind
kinds_of = laid_out (λ part place i. (stream_at part place).kind)

-- two lists of cells of these kinds, cell by cell
abbrev pub merged_cells : List Kind → List Cell → List Cell → List Cell
merged_cells [] cs ds = []
merged_cells (k ∷ ks) [] ds = []
merged_cells (k ∷ ks) (c ∷ cs) [] = []
merged_cells (k ∷ ks) (c ∷ cs) (d ∷ ds) = merged k c d ∷ merged_cells ks cs ds

-- two synopses of one plan
unfoldable pub merge : List PartPlan → List Cell → List Cell → List Cell
merge plan cs ds = merged_cells (kinds_of plan) cs ds

-- two tables of printed tuples
abbrev pub merged_table : List (List ℤ) → List (List ℤ) → List (List ℤ)
merged_table ts us = sorted (distinct_tuples (ts ++ us))
