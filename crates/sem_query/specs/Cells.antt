-- The synopsis of a history: what each cell keeps of the rows that it stands for.
use Rattle.std.specs.Prelude.{ℕ, zero, suc, ◌<◌, ◌≤◌, ◌^◌, ◌&&◌, List, [], ◌∷◌, ◌++◌, map, filter, length, ℤ, nat_eq, int_lt, if◌then◌else◌}
use Rattle.std.specs.List.{slice_index_or, flat_map}
use Rattle.sem_query.specs.declared.atom.Attr.{Attr}
use Rattle.sem_query.specs.declared.cell.Cell.{Cell}
use Rattle.sem_query.specs.declared.plan.Dim.{Dim}
use Rattle.sem_query.specs.declared.plan.Kind.{Kind}
use Rattle.sem_query.specs.declared.plan.StreamPlan.{StreamPlan}
use Rattle.sem_query.specs.declared.plan.PartPlan.{PartPlan}
use Rattle.sem_query.specs.Query.{QueryValue}
use Rattle.sem_query.specs.Tuples.{sorted, distinct_tuples}
use Rattle.sem_query.specs.Meaning.{Arrival, rows, by_column, answers}
use Rattle.sem_query.specs.Boxes.{place_of}
use Rattle.sem_query.specs.Plan.{stream_at, dims_at}
use Rattle.sem_query.specs.Admission.{admits}

-- the values of the dims in a row
abbrev pub dim_values : List Dim → (ℕ → ℤ) → List ℤ
dim_values dims v = map (λ d. v d.attr.column) dims

-- the place of a row in the box
abbrev pub row_place : List Dim → (ℕ → ℤ) → ℕ
row_place dims v = place_of dims (dim_values dims v)

-- the least of an integer and the values of some rows at a column
abbrev pub least : Attr → ℤ → List (List ℤ) → ℤ
least a z [] = z
least a z (row ∷ others) = least a (if int_lt (by_column row a.column) z then by_column row a.column else z) others

-- the greatest of an integer and the values of some rows at a column
abbrev pub greatest : Attr → ℤ → List (List ℤ) → ℤ
greatest a z [] = z
greatest a z (row ∷ others) = greatest a (if int_lt z (by_column row a.column) then by_column row a.column else z) others

-- what a cell of a kind keeps of its rows
abbrev pub content : Kind → List (List ℤ) → Cell
content kind [] = Cell.Empty
content Kind.Count (row ∷ others) = Cell.Count (suc (length others))
content Kind.Present (row ∷ others) = Cell.Present
content (Kind.Least a) (row ∷ others) = Cell.Extreme (least a (by_column row a.column) others)
content (Kind.Greatest a) (row ∷ others) = Cell.Extreme (greatest a (by_column row a.column) others)

-- of the rows of the stream at a place of FROM, those that the cell at place i of its box stands for
abbrev pub rows_of_cell : QueryValue → PartPlan → ℕ → ℕ → List (List ℤ) → List (List ℤ)
rows_of_cell q part place i = filter (λ row. admits q part place (by_column row) && nat_eq (row_place (dims_at part place) (by_column row)) i)

-- the cell at place i of the box of a part and a place of FROM
abbrev pub cell_of : QueryValue → List Arrival → PartPlan → ℕ → ℕ → Cell
cell_of q history part place i = content (stream_at part place).kind (rows_of_cell q part place i (rows history (slice_index_or q.from place 0)))

-- f 0, f 1 .. f (n - 1)
abbrev pub upto : {X : Type 0} → (ℕ → X) → ℕ → List X
upto f zero = []
upto f (suc n) = upto f n ++ f n ∷ []

-- what stands at each place of each box of a part, by FROM, from a place on
abbrev pub by_box : {X : Type 0} → (ℕ → ℕ → X) → ℕ → List StreamPlan → List X
by_box f place [] = []
by_box f place (s ∷ streams) = upto (f place) s.size ++ by_box f (suc place) streams

-- what stands at each place of each box of a plan, by part and then by FROM
abbrev pub laid_out : {X : Type 0} → (PartPlan → ℕ → ℕ → X) → List PartPlan → List X
laid_out f plan = flat_map (λ part. by_box (f part) 0 part.streams.items) plan

-- the synopsis of a history: the cells of all boxes
unfoldable pub synopsis : QueryValue → List PartPlan → List Arrival → List Cell
synopsis q plan history = laid_out (cell_of q history) plan

-- the tuples printed so far: with DISTINCT the different answers, ascending
abbrev pub printed : QueryValue → List Arrival → List (List ℤ)
printed q history = if q.distinct then sorted (distinct_tuples (answers q history)) else []

-- a cell is empty, or it is of its kind, with a count of 1 to 2^40 rows
abbrev pub FitsKind : Kind → Cell → Type 0
FitsKind kind Cell.Empty = Unit {0}
FitsKind Kind.Count (Cell.Count n) = (0 < n) × (n ≤ 2 ^ 40)
FitsKind Kind.Present Cell.Present = Unit {0}
FitsKind (Kind.Least a) (Cell.Extreme z) = Unit {0}
FitsKind (Kind.Greatest a) (Cell.Extreme z) = Unit {0}
FitsKind kind cell = ⊥
