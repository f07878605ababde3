-- The combinations of cells that answer a row: at its own place of FROM the row itself, at each other place a cell.
use Rattle.std.specs.Prelude.{ℕ, suc, ◌+◌, ◌*◌, Bool, true, false, ◌&&◌, ◌||◌, List, [], ◌∷◌, map, filter, ℤ, pos, int_lt, if◌then◌else◌, ◌==◌}
use Rattle.std.specs.List.{slice_index_or, flat_map, list_all, list_any}
use Rattle.std.specs.Ordering.{int_eq}
use Rattle.sem_query.specs.declared.atom.Attr.{Attr}
use Rattle.sem_query.specs.declared.atom.Element.{Element}
use Rattle.sem_query.specs.declared.atom.Element.TheVariants as element
use Rattle.sem_query.specs.declared.atom.Op.{Op}
use Rattle.sem_query.specs.declared.cell.Cell.{Cell}
use Rattle.sem_query.specs.declared.part.Sign.{Sign}
use Rattle.sem_query.specs.declared.part.Pair.{Pair}
use Rattle.sem_query.specs.declared.plan.Dim.{Dim}
use Rattle.sem_query.specs.declared.plan.LocalCondition.{LocalCondition}
use Rattle.sem_query.specs.declared.plan.PartPlan.{PartPlan}
use Rattle.sem_query.specs.Query.{QueryValue, attr_eq}
use Rattle.sem_query.specs.Assignment.{Assignment, compares, projected}
use Rattle.sem_query.specs.Meaning.{Arrival, product, by_column, joined}
use Rattle.sem_query.specs.Parts.{pairs}
use Rattle.sem_query.specs.Boxes.{values_at}
use Rattle.sem_query.specs.Plan.{stream_at, dims_at}
use Rattle.sem_query.specs.Admission.{admits, sign_eq}
use Rattle.sem_query.specs.Cells.{upto}

-- the pair compares the columns a and b
abbrev pub compares_both : Attr → Attr → Attr → Element → Bool
compares_both a b left (element.Attr right) = (attr_eq left a && attr_eq right b) || (attr_eq left b && attr_eq right a)
compares_both a b left (element.Const k) = false

-- a pair says that the columns a and b are equal
abbrev pub ties : Attr → Attr → Pair → Sign → Bool
ties a b p s = sign_eq s Sign.Eq && compares_both a b p.left p.right

-- some pair says that the columns a and b are equal
abbrev pub any_ties : Attr → Attr → List Pair → List Sign → Bool
any_ties a b [] ss = false
any_ties a b (p ∷ ps) [] = false
any_ties a b (p ∷ ps) (s ∷ ss) = ties a b p s || any_ties a b ps ss

-- two columns of one class, by the signs of the part
abbrev pub tied : QueryValue → List Sign → Attr → Attr → Bool
tied q s a b = attr_eq a b || any_ties a b (pairs q) s

abbrev pub is_equality : Op → Bool
is_equality Op.Eq = true
is_equality o = false

-- rows of a stream are asked that the columns a and b are equal
abbrev pub binds : Attr → Attr → LocalCondition → Bool
binds a b t = is_equality t.op && (int_eq t.by (pos 0) && compares_both a b t.left t.right)

-- two columns of one class, by all that the part asks of a stream
abbrev pub is_tied : QueryValue → PartPlan → Attr → Attr → Bool
is_tied q part a b = tied q part.signs.items a b || list_any (binds a b) part.local

-- the value of a column where the dims have these values: that of its class, or the extreme z where no dim is of its class
abbrev pub looked_up : (Attr → Attr → Bool) → List Dim → List ℤ → ℤ → Attr → ℤ
looked_up are_tied [] xs z a = z
looked_up are_tied (d ∷ dims) [] z a = z
looked_up are_tied (d ∷ dims) (x ∷ xs) z a = if are_tied d.attr a then x else looked_up are_tied dims xs z a

-- a cell read as a row: the dims have these values, every other column the extreme z
abbrev pub row_of_values : QueryValue → PartPlan → ℕ → List ℤ → ℤ → ℕ → ℤ
row_of_values q part place xs z column = looked_up (is_tied q part) (dims_at part place) xs z record { stream = place; column = column }

-- the cell at place i of its box read as a row
abbrev pub row_of_cell : QueryValue → PartPlan → ℕ → ℕ → ℤ → ℕ → ℤ
row_of_cell q part place i = row_of_values q part place (values_at (dims_at part place) i)

-- values for one place of FROM, and for how many rows they stand
pub record Choice : Type 0 where
  pub values : ℕ → ℤ
  pub times : ℕ

-- the one choice of these values
abbrev pub choice : (ℕ → ℤ) → ℕ → List Choice
choice v n = record { values = v; times = n } ∷ []

-- a cell with these values of the dims can be chosen where it is not empty
abbrev pub choice_of : QueryValue → PartPlan → ℕ → List ℤ → Cell → List Choice
choice_of q part place xs Cell.Empty = []
choice_of q part place xs (Cell.Count n) = choice (row_of_values q part place xs (pos 0)) n
choice_of q part place xs Cell.Present = choice (row_of_values q part place xs (pos 0)) 1
choice_of q part place xs (Cell.Extreme z) = choice (row_of_values q part place xs z) 1

-- the cell at place i of its box can be chosen where it is not empty
abbrev pub cell_choice : QueryValue → PartPlan → ℕ → ℕ → Cell → List Choice
cell_choice q part place i = choice_of q part place (values_at (dims_at part place) i)

-- a reading of cells: the cell of a part, a place of FROM, and a place in its box
abbrev pub Reading : Type 0
Reading = PartPlan → ℕ → ℕ → Cell

-- a list of cells, read by the bases of the plan
abbrev pub read_from : List Cell → Reading
read_from cells part place i = slice_index_or cells ((stream_at part place).base + i) Cell.Empty

-- what can be chosen at one place of FROM, where there is this stream: the arriving row itself, or a cell of another stream
abbrev pub choices_at : QueryValue → PartPlan → Reading → Arrival → ℕ → ℕ → List Choice
choices_at q part read r place stream =
    if r.stream == stream
    then (if admits q part place (by_column r.values) then choice (by_column r.values) 1 else [])
    else flat_map (λ i. cell_choice q part place i (read part place i)) (upto (λ i. i) (stream_at part place).size)

-- what can be chosen at each place of FROM, from a place on
abbrev pub choices : QueryValue → PartPlan → Reading → Arrival → ℕ → List ℕ → List (List Choice)
choices q part read r place [] = []
choices q part read r place (stream ∷ others) = choices_at q part read r place stream ∷ choices q part read r (suc place) others

-- the choices, one for each place of FROM, read as an assignment
abbrev pub chosen_values : List Choice → Assignment
chosen_values chosen = joined (map (λ c. c.values) chosen)

-- the links of a part hold of an assignment
abbrev pub linked : PartPlan → Assignment → Bool
linked part v =
    (list_all (λ l. int_eq (v l.left) (v l.right)) part.equal.items && list_all (λ l. int_lt (v l.left) (v l.right)) part.less.items)
    && list_all (λ l. compares l.op (v l.left) (v l.right)) part.soft.items

-- for how many combinations of rows the choices stand
abbrev pub times_of : List Choice → ℕ
times_of [] = 1
times_of (c ∷ chosen) = c.times * times_of chosen

-- a tuple, and how often it is answered
pub record Found : Type 0 where
  pub tuple : List ℤ
  pub count : ℕ

-- what one combination answers
abbrev pub found : QueryValue → List Choice → Found
found q chosen = record { tuple = projected q (chosen_values chosen); count = times_of chosen }

-- what the cells of a part answer to a row: one tuple for each combination that meets the links
unfoldable pub found_in : QueryValue → PartPlan → Reading → Arrival → List Found
found_in q part read r = map (found q) (filter (λ chosen. linked part (chosen_values chosen)) (product (choices q part read r 0 q.from)))
