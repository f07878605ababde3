-- What contracts see of an executor, and what is true of each.
use Rattle.std.specs.Prelude.{◌≡◌, ◌≤◌, ◌^◌, ℕ, Bool, true, if◌then◌else◌, ℤ, List, [], take, drop, replicate, length, Contains, All}
use Rattle.std.specs.List.{flat_map}
use Rattle.exec_answer_table.specs.Entries.{Entry, TableValue, with_entries, settled, tuples_of, Ascends}
use Rattle.sem_query.specs.declared.cell.Cell.{Cell}
use Rattle.sem_query.specs.declared.decision.Which.TheVariants as which
use Rattle.sem_query.specs.declared.plan.PartPlan.{PartPlan}
use Rattle.sem_query.specs.declared.plan.Plan.{Plan}
use Rattle.sem_query.specs.declared.plan.Plan.TheVariants as plan
use Rattle.sem_query.specs.Query.{QueryValue, IsWithinLimits}
use Rattle.sem_query.specs.Meaning.{Arrival}
use Rattle.sem_query.specs.Verdict.{most}
use Rattle.sem_query.specs.Numbers.{parts_of, pages_of}
use Rattle.sem_query.specs.Sharing.{Box, kept_boxes, sizes_in}
use Rattle.sem_query.specs.Ranges.{all_tuples}
use Rattle.sem_forms.specs.Forms.{IsFormPlanOf, IsWithin, MeetsForm}
use Rattle.exec_pool.specs.declared.pool.Extent.{Extent}
use Rattle.exec_pool.specs.Extents.{PoolValue, cells_of}
use Rattle.exec_saturation.specs.declared.saturation.Saturation.{Saturation}

-- the query, whether its cells are shared, its plan, the extent of its cells, how many rows were given, the answer table, and of which cells
-- it is known that the table has all that they tell
pub record ExecutorValue : Type 0 where
  pub query : QueryValue
  pub shared : Bool
  pub plan : Plan
  pub extent : Extent
  pub given : ℕ
  pub table : TableValue
  pub saturation : Saturation

-- the parts of the plan
abbrev pub parts_in : ExecutorValue → List PartPlan
parts_in e = parts_of e.plan

-- the boxes whose cells are kept
abbrev pub list_in : ExecutorValue → List Box
list_in e = kept_boxes e.shared e.query (parts_in e)

-- the cells of these boxes in the pool
abbrev pub cells_in : ExecutorValue → PoolValue → List Cell
cells_in e pool = take (sizes_in (list_in e)) (cells_of pool e.extent)

-- the cells behind them, up to the end of the last page
abbrev pub rest_in : ExecutorValue → PoolValue → List Cell
rest_in e pool = drop (sizes_in (list_in e)) (cells_of pool e.extent)

-- the tuples of the table, ascending
abbrev pub tuples_in : ExecutorValue → List (List ℤ)
tuples_in e = tuples_of e.table.entries

-- each tuple of some entries as often as it waits, in their order
abbrev pub spelled : List Entry → List (List ℤ)
spelled entries = flat_map (λ entry. replicate entry.waiting entry.tuple) entries

-- the answers that wait to be written
abbrev pub waiting_in : ExecutorValue → List (List ℤ)
waiting_in e = spelled e.table.entries

-- for how many answers there is room: a filter has one at a time
abbrev pub most_answers : Plan → ℕ
most_answers plan.Filter = 1
most_answers (plan.Parts parts numbers) = numbers.answers

-- the plan is that of the query, which breaks no condition, and no number is above its limit, that of the plan's parts too
pub record IsAccepted (shared : Bool) (q : QueryValue) (p : Plan) : Type 0 where
  pub plan : IsFormPlanOf shared q p
  pub met : MeetsForm q
  pub within : IsWithin p
  pub few : length (parts_of p) ≤ most which.Parts

-- what is true of each executor: it has just the pages of its plan, and room for just the answers of it; at most 2^40 rows were given; the
-- table has no more entries than there is room for, in ascending order; and with DISTINCT each of its tuples lies in the ranges of some part
pub record IsSound (e : ExecutorValue) : Type 0 where
  pub limits : IsWithinLimits e.query
  pub accepted : IsAccepted e.shared e.query e.plan
  pub pages : e.extent.pages ≡ pages_of e.plan
  pub width : e.table.width ≡ length e.query.select
  pub capacity : e.table.capacity ≡ most_answers e.plan
  pub given : e.given ≤ 2 ^ 40
  pub entries : length e.table.entries ≤ most_answers e.plan
  pub ascends : Ascends e.table.entries
  pub tuples : e.query.distinct ≡ true → All (Contains (all_tuples e.query (parts_in e))) (tuples_in e)

-- a row of a stream, as it arrives
abbrev pub arrival : ℕ → List ℤ → Arrival
arrival stream values = record { stream = stream; values = values }

-- the executor after so many rows were given, with other entries in its table
abbrev pub with_given : ExecutorValue → ℕ → List Entry → ExecutorValue
with_given e given entries = record { query = e.query; shared = e.shared; plan = e.plan; extent = e.extent; given = given; table = with_entries e.table entries; saturation = e.saturation }

-- the executor with another saturation
abbrev pub with_saturation : ExecutorValue → Saturation → ExecutorValue
with_saturation e saturation = record { query = e.query; shared = e.shared; plan = e.plan; extent = e.extent; given = e.given; table = e.table; saturation = saturation }

-- the entries before a row is taken: with DISTINCT the tuples stay
abbrev pub cleared : Bool → List Entry → List Entry
cleared distinct entries = if distinct then settled entries else []
