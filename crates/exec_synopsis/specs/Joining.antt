-- The one cell of the other stream that can answer with a row, as the row's own columns tell it.
use Rattle.std.specs.Prelude.{◌≡◌, ℕ, ℤ, ◌+◌, ◌-◌, ◌<◌, ◌^◌, ◌==◌, not, Bool, false, true, List, map, length, nat_eq, position, slice_get, if◌then◌else◌, Option, Some, None}
use Rattle.std.specs.List.{list_all}
use Rattle.sem_query.specs.declared.atom.Attr.{Attr}
use Rattle.sem_query.specs.declared.part.Pair.{Pair}
use Rattle.sem_query.specs.declared.plan.Dim.{Dim}
use Rattle.sem_query.specs.declared.plan.Link.{Link}
use Rattle.sem_query.specs.declared.plan.LocalCondition.{LocalCondition}
use Rattle.sem_query.specs.declared.plan.PartPlan.{PartPlan}
use Rattle.sem_query.specs.Admission.{in_range}
use Rattle.sem_query.specs.Parts.{is_within}
use Rattle.sem_query.specs.Boxes.{box_size}
use Rattle.sem_query.specs.Plan.{stream_at, dims_at}
use Rattle.exec_synopsis.specs.declared.key_columns.KeyColumn.{KeyColumn}
use Rattle.exec_synopsis.specs.declared.join_lookup.JoinLookup.{JoinLookup}
use Rattle.exec_synopsis.specs.Axes.{AreAxes}
use Rattle.exec_synopsis.specs.Classes.{are_tied}
use Rattle.exec_synopsis.specs.Keeping.{keeps_part}
use Rattle.exec_synopsis.specs.Pinning.{AreKeyColumns}

-- the range of a dim, of the column that fixes the dim
abbrev pub key_dim : KeyColumn → Dim
key_dim key = record { attr = key.column; lo = key.dim.lo; hi = key.dim.hi }

-- the number of a column, where there is one
abbrev pub number_of : Option KeyColumn → Option ℕ
number_of None = None
number_of (Some key) = Some key.column.column

-- the column that fixes the dim of a class, by the place of the dim
abbrev pub column_at : List KeyColumn → Option ℕ → Option ℕ
column_at keys None = None
column_at keys (Some k) = number_of (slice_get keys k)

-- what is listed, where something is
abbrev pub or_none : Option (Option ℕ) → Option ℕ
or_none None = None
or_none (Some told) = told

-- the column of the arriving row that has the value of a column: the column itself, or the listed one of a column of the other stream
abbrev pub told_column : List (Option ℕ) → ℕ → ℕ → Attr → Option ℕ
told_column told place arriving a = if a.stream == arriving then Some a.column else (if a.stream == place then or_none (slice_get told a.column) else None)

-- two columns of the arriving row are told, and are the same
abbrev pub same_column : Option ℕ → Option ℕ → Bool
same_column None right = false
same_column (Some m) None = false
same_column (Some m) (Some n) = nat_eq m n

-- one column of the arriving row has the values of both sides of a link
abbrev pub is_told : List (Option ℕ) → ℕ → ℕ → Link → Bool
is_told told place arriving l = same_column (told_column told place arriving l.left) (told_column told place arriving l.right)

-- the dim of the class of a column of the stream at a place, by its place among the dims
abbrev pub class_at : List Pair → PartPlan → ℕ → ℕ → Option ℕ
class_at ps part place column = position (λ d. are_tied ps part d.attr (record { stream = place; column = column })) (dims_at part place)

-- no condition is of the stream at this place
abbrev pub asks_none : ℕ → List LocalCondition → Bool
asks_none place ts = list_all (λ t. not (is_within place t.left t.right)) ts

-- over two streams: columns of the arriving row fix all dims of the other place, each listed column has the value of the class of a column
-- there, and no link but equalities of what is told so stands in the part; where it is marked as signed, a row in the ranges of the dims of its
-- own place has all signs, and stands as else it is asked
pub record IsJoinLookup (ps : List Pair) (part : PartPlan) (arriving : ℕ) (listed : JoinLookup) : Type 0 where
  pub keys : List KeyColumn
  pub two : length part.streams.items ≡ 2
  pub here : arriving < 2
  pub place : listed.place ≡ 1 - arriving
  pub key_columns : AreKeyColumns part arriving listed.place (dims_at part listed.place) keys
  pub dims : listed.dims.items ≡ map key_dim keys
  pub axes : AreAxes listed.dims.items listed.axes.items
  pub base : listed.base ≡ (stream_at part listed.place).base
  pub few : listed.base + box_size listed.dims.items < 2 ^ 32
  pub told : (column c : ℕ) → slice_get listed.told.items column ≡ Some (Some c) → column_at keys (class_at ps part listed.place column) ≡ Some c
  pub equal : list_all (is_told listed.told.items listed.place arriving) part.equal.items ≡ true
  pub less : length part.less.items ≡ 0
  pub soft : length part.soft.items ≡ 0
  pub signed : listed.signed ≡ true → (v : ℕ → ℤ) → list_all (in_range v) (dims_at part arriving) ≡ true
      → keeps_part ps part arriving v ≡ true
