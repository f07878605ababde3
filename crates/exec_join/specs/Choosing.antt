-- What a walk chooses from, and what a whole combination comes to.
use Rattle.std.specs.Prelude.{ℕ, zero, suc, ◌*◌, ◌==◌, ◌&&◌, Bool, List, [], ◌∷◌, map, ℤ, int_lt, if◌then◌else◌}
use Rattle.std.specs.List.{list_all}
use Rattle.std.specs.Ordering.{int_eq}
use Rattle.sem_query.specs.Boxes.{place_of}
use Rattle.sem_query.specs.declared.atom.Attr.{Attr}
use Rattle.sem_query.specs.declared.cell.Cell.{Cell}
use Rattle.sem_query.specs.declared.cell.Cell.TheVariants.{Present}
use Rattle.sem_query.specs.declared.part.Pair.{Pair}
use Rattle.sem_query.specs.declared.plan.Dim.{Dim}
use Rattle.sem_query.specs.declared.plan.PartPlan.{PartPlan}
use Rattle.sem_query.specs.Assignment.{compares}
use Rattle.sem_query.specs.Plan.{dims_at}
use Rattle.sem_query.specs.Combinations.{Reading, Found}
use Rattle.exec_ranges.specs.declared.binding.Binding.{Binding}
use Rattle.exec_ranges.specs.Values.{value_in, rows_in}
use Rattle.exec_ranges.specs.Narrowed.{dims_in}

-- a row that arrives at a place of FROM, and the cells that it meets
pub record Setting : Type 0 where
  pub pairs : List Pair
  pub select : List Attr
  pub part : PartPlan
  pub arriving : ℕ
  pub row : List ℤ
  pub read : Reading

-- a setting of these parts
abbrev pub setting : List Pair → List Attr → PartPlan → ℕ → List ℤ → Reading → Setting
setting ps select part arriving row read = record { pairs = ps; select = select; part = part; arriving = arriving; row = row; read = read }

-- a cell with the values of its dims
abbrev pub chosen : List ℤ → Cell → Binding
chosen values cell = record { values = record { items = values }; cell = cell }

-- the dims of a place in a setting
abbrev pub dims_beside : Setting → ℕ → List Dim
dims_beside w place = dims_in w.part w.arriving place

-- the cell for these values; the arriving row stands for itself
unfoldable pub cell_in : PartPlan → Reading → ℕ → ℕ → List ℤ → Cell
cell_in part read arriving place values = if place == arriving then Present else read part place (place_of (dims_at part place) values)

-- the cell of a place in a setting, for these values
abbrev pub cell_at : Setting → ℕ → List ℤ → Cell
cell_at w place values = cell_in w.part w.read w.arriving place values

-- the value of a column in a setting, where cells were chosen at the first places
abbrev pub value : Setting → List Binding → Attr → ℤ
value w known = value_in w.pairs w.part w.arriving w.row known

-- the links of the part hold of the values that were chosen
unfoldable pub meets_links : List Pair → PartPlan → ℕ → List ℤ → List Binding → Bool
meets_links ps part arriving row known =
    (list_all (λ l. int_eq (value_in ps part arriving row known l.left) (value_in ps part arriving row known l.right)) part.equal.items
    && list_all (λ l. int_lt (value_in ps part arriving row known l.left) (value_in ps part arriving row known l.right)) part.less.items)
    && list_all (λ l. compares l.op (value_in ps part arriving row known l.left) (value_in ps part arriving row known l.right)) part.soft.items

-- the links hold in a setting
abbrev pub meets : Setting → List Binding → Bool
meets w known = meets_links w.pairs w.part w.arriving w.row known

-- the values of the selected columns
unfoldable pub tuple_of : List Pair → List Attr → PartPlan → ℕ → List ℤ → List Binding → List ℤ
tuple_of ps select part arriving row known = map (value_in ps part arriving row known) select

-- the selected values in a setting
abbrev pub tuple : Setting → List Binding → List ℤ
tuple w known = tuple_of w.pairs w.select w.part w.arriving w.row known

-- for how many combinations of rows the chosen cells stand
abbrev pub product_of : List Binding → ℕ
product_of [] = 1
product_of (c ∷ cs) = rows_in c.cell * product_of cs

-- what a whole combination answers
abbrev pub found : Setting → List Binding → Found
found w known = record { tuple = tuple w known; count = product_of known }

-- what a walk has chosen where it comes to its first cell: the arriving row, if that is of the first stream
abbrev pub start : ℕ → List Binding
start zero = chosen [] Present ∷ []
start (suc arriving) = []

-- the arriving row, and a cell of the other of two streams, by place
abbrev pub both : ℕ → List ℤ → Cell → List Binding
both zero values cell = chosen [] Present ∷ chosen values cell ∷ []
both (suc arriving) values cell = chosen values cell ∷ chosen [] Present ∷ []
