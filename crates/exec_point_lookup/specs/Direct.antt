-- The two cells that a row of a query of one part meets, where one column tells them.
use Rattle.std.specs.Prelude.{◌≡◌, ◌⊎◌, ℕ, ◌<◌, ◌-◌, List, [], ◌∷◌, length, map, true, slice_get, slice_index_or, Some}
use Rattle.sem_query.specs.declared.plan.Kind.TheVariants as kinds
use Rattle.sem_query.specs.declared.plan.PartPlan.{PartPlan}
use Rattle.sem_query.specs.Parts.{pairs}
use Rattle.sem_query.specs.Query.{QueryValue}
use Rattle.exec_synopsis.specs.declared.axes.Axis.{Axis}
use Rattle.exec_synopsis.specs.declared.axes.BoxLayout.{BoxLayout}
use Rattle.exec_synopsis.specs.declared.join_lookup.JoinLookup.{JoinLookup}
use Rattle.exec_synopsis.specs.Axes.{IsBoxLayout}
use Rattle.exec_synopsis.specs.Joining.{told_column, IsJoinLookup}
use Rattle.exec_point_lookup.specs.declared.direct.DirectLookup.{DirectLookup}
use Rattle.exec_point_lookup.specs.declared.direct.DirectLookups.{DirectLookups}
use Rattle.exec_point_lookup.specs.declared.direct.ColumnRange.{ColumnRange}

-- the range that a row is asked at its own place, and the same range at the other place
abbrev pub axis_of : ColumnRange → Axis
axis_of r = record { lo = r.lo; size = r.size; column = r.column }

abbrev pub own_axis : DirectLookup → Axis
own_axis d = axis_of d.range

abbrev pub other_axis : DirectLookup → Axis
other_axis d = record { lo = d.range.lo; size = d.range.size; column = d.joined }

-- it says what a listed look-up, and what a row is asked at the two places, say
pub record IsListedFrom (listed : JoinLookup) (own other : BoxLayout) (d : DirectLookup) : Type 0 where
  pub signed : listed.signed ≡ true
  pub told : told_column listed.told.items listed.place d.pos (record { stream = 1 - d.pos; column = d.joined }) ≡ Some d.range.column
  pub own_axes : own.axes.items ≡ own_axis d ∷ []
  pub other_axes : other.axes.items ≡ other_axis d ∷ []
  pub own_base : own.base ≡ d.own
  pub other_base : other.base ≡ d.other
  pub kind : own.kind ≡ kinds.Count

-- it says how a part takes a row that arrives at its place of FROM
pub record IsDirectIn (q : QueryValue) (part : PartPlan) (d : DirectLookup) : Type 0 where
  pub listed : JoinLookup
  pub joins : IsJoinLookup (pairs q) part d.pos listed
  pub own : BoxLayout
  pub own_layout : IsBoxLayout part d.pos own
  pub other : BoxLayout
  pub other_layout : IsBoxLayout part (1 - d.pos) other
  pub is : IsListedFrom listed own other d
  pub columns : map (told_column listed.told.items listed.place d.pos) q.select ≡ map (λ (c : ℕ). Some c) d.selected.items

-- it says so of the only part of a query, and has the stream of that place
pub record IsDirect (q : QueryValue) (parts : List PartPlan) (d : DirectLookup) : Type 0 where
  pub one : length parts ≡ 1
  pub here : d.pos < length q.from
  pub stream : d.stream ≡ slice_index_or q.from d.pos 0
  pub only : (part : PartPlan) → slice_get parts 0 ≡ Some part → IsDirectIn q part d

-- it says so where its stream is one that a row can have
abbrev pub IsDirectFor : QueryValue → List PartPlan → DirectLookup → Type 0
IsDirectFor q parts d = d.stream < 256 → IsDirect q parts d

-- it is one of those listed
abbrev pub IsListedIn : DirectLookups → DirectLookup → Type 0
IsListedIn all d = (all.first ≡ d) ⊎ (all.second ≡ d)

-- each that is listed says so
abbrev pub AreDirect : QueryValue → List PartPlan → DirectLookups → Type 0
AreDirect q parts all = (d : DirectLookup) → IsListedIn all d → IsDirectFor q parts d
