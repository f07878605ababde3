-- What the links with known columns leave at a place, as far as it is known before any row: the arriving row's own columns fix
-- all dims, or all values of all dims are left.
use Rattle.std.specs.Prelude.{◌≡◌, ℕ, ℤ, ◌&&◌, ◌||◌, not, Bool, List, map, All, Some}
use Rattle.std.specs.List.{list_any}
use Rattle.sem_query.specs.declared.atom.Attr.{Attr}
use Rattle.sem_query.specs.declared.plan.Dim.{Dim}
use Rattle.sem_query.specs.declared.plan.Link.{Link}
use Rattle.sem_query.specs.declared.plan.PartPlan.{PartPlan}
use Rattle.sem_query.specs.Plan.{stream_at, dims_at}
use Rattle.sem_query.specs.Probing.{is_known}
use Rattle.sem_query.specs.Query.{attr_eq}
use Rattle.exec_synopsis.specs.declared.key_columns.KeyColumn.{KeyColumn}
use Rattle.exec_synopsis.specs.declared.key_columns.LookupKey.{LookupKey}
use Rattle.exec_synopsis.specs.Narrowing.{binding_column, narrow}

-- the known column that a link says is equal to the dim is one of the arriving row's own
pub record IsKeyColumn (part : PartPlan) (arriving place : ℕ) (key_column : KeyColumn) : Type 0 where
  pub known : binding_column arriving place key_column.dim.attr part.equal.items ≡ Some key_column.column
  pub own : key_column.column.stream ≡ arriving

-- the dims of these key columns are these dims, and each is fixed so
pub record AreKeyColumns (part : PartPlan) (arriving place : ℕ) (whole : List Dim) (key_columns : List KeyColumn) : Type 0 where
  pub dims : map (λ key_column. key_column.dim) key_columns ≡ whole
  pub each : All (IsKeyColumn part arriving place) key_columns

-- all dims of a place are fixed so, and its box begins at this cell
pub record IsPinned (part : PartPlan) (arriving : ℕ) (listed : LookupKey) : Type 0 where
  pub key_columns : AreKeyColumns part arriving listed.place (dims_at part listed.place) listed.key_columns.items
  pub first : listed.first ≡ (stream_at part listed.place).base

-- a link is between this column and a known one
abbrev pub touches : ℕ → ℕ → Attr → Link → Bool
touches arriving place a l = (attr_eq l.left a && is_known arriving place l.right) || (attr_eq l.right a && is_known arriving place l.left)

-- no link is between the dim and a known column
abbrev pub is_free : PartPlan → ℕ → ℕ → Dim → Bool
is_free part arriving place d = not (list_any (touches arriving place d.attr) part.equal.items) && not (list_any (touches arriving place d.attr) part.less.items)

-- whatever the known columns are, the links leave all values of all dims of a place
abbrev pub IsWhole : PartPlan → ℕ → ℕ → Type 0
IsWhole part arriving place = (values : Attr → ℤ) → map (narrow arriving place part.equal.items part.less.items values) (dims_at part place) ≡ dims_at part place
