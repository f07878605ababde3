-- A look at one cell after the other, whether it is saturated.
use Rattle.std.specs.Prelude.{◌≡◌, ◌⊎◌, ℕ, ◌+◌, ◌-◌, ◌/◌, min, max, ◌*◌, ◌<◌, ◌≤◌, Bool, true, false, ℤ, List, length, nat_eq, if◌then◌else◌, Contains, Some, slice_get}
use Rattle.sem_query.specs.declared.cell.Cell.{Cell}
use Rattle.sem_query.specs.declared.plan.PartPlan.{PartPlan}
use Rattle.sem_query.specs.declared.plan.Plan.{Plan}
use Rattle.sem_query.specs.declared.plan.Plan.TheVariants as plan
use Rattle.sem_query.specs.Query.{QueryValue}
use Rattle.sem_query.specs.Plan.{stream_at}
use Rattle.sem_query.specs.Combinations.{Reading}
use Rattle.sem_query.specs.Numbers.{share}
use Rattle.exec_pool.specs.declared.pool.Extent.{Extent}
use Rattle.exec_pool.specs.Extents.{PoolValue}
use Rattle.exec_synopsis.specs.Premises.{IsReady}
use Rattle.exec_part_index.specs.declared.prepared.PreparedPlan.{PreparedPlan}
use Rattle.exec_part_index.specs.Prepared.{IsPreparedPlan}
use Rattle.sem_laws.specs.Closed.{IsClosed}
use Rattle.exec_saturation.specs.declared.saturation.Cursor.{Cursor}
use Rattle.exec_saturation.specs.declared.saturation.Saturation.{Saturation}
use Rattle.exec_saturation.specs.declared.cursor.Ahead.{Ahead}
use Rattle.exec_saturation.specs.declared.cursor.Came.{Came}
use Rattle.exec_saturation.specs.declared.cursor.CursorStep.{CursorStep}
use Rattle.exec_saturation.specs.Known.{IsBefore, AreSaturated}

-- one cell stands before another, and where all cells before it are saturated, so are all before the other
abbrev pub LeadsOn : QueryValue → List PartPlan → Reading → Cursor → Cursor → Type 0
LeadsOn q parts read at next =
    IsBefore next at.part at.place at.cell
    × ((table : List (List ℤ)) → AreSaturated (Saturation.Before at) q parts read table → AreSaturated (Saturation.Before next) q parts read table)

-- there is a cell at a cursor
pub record IsAtCell (q : QueryValue) (parts : List PartPlan) (at : Cursor) : Type 0 where
  pub part : at.part < length parts
  pub place : at.place < length q.from
  pub cell : (part : PartPlan) → slice_get parts at.part ≡ Some part → at.cell < (stream_at part at.place).size

-- a cell holds this
abbrev pub HoldsAt : List PartPlan → Reading → Cursor → Cell → Type 0
HoldsAt parts read at held = (part : PartPlan) → slice_get parts at.part ≡ Some part → held ≡ read part at.place at.cell

-- what stands at a cursor: nothing up to the next one, or a cell that holds this
abbrev pub StandsAhead : QueryValue → List PartPlan → Reading → Cursor → Ahead → Type 0
StandsAhead q parts read at (Ahead.On next) = LeadsOn q parts read at next
StandsAhead q parts read at (Ahead.At held) = IsAtCell q parts at × HoldsAt parts read at held

-- the cells of a query with DISTINCT over two streams are ready to be looked at, beside a table of this width; a walk in any part reads at most so many
pub record CanLook (q : QueryValue) (parts : List PartPlan) (asked : PreparedPlan) (pool : PoolValue) (extent : Extent) (wide most : ℕ) : Type 0 where
  pub distinct : q.distinct ≡ true
  pub prepared : IsPreparedPlan q parts asked
  pub ready : (part : PartPlan) → Contains parts part → IsReady q part pool extent
  pub width : length q.select ≡ wide
  pub two : length q.from ≡ 2
  pub shares : (part : PartPlan) → Contains parts part → share part ≤ most

-- the announced work of a plan
abbrev pub work_of : Plan → ℕ
work_of plan.Filter = 0
work_of (plan.Parts parts numbers) = numbers.work

-- with DISTINCT over two streams the cells of a plan are ready to be looked at, where a walk reads no more than the announced work
abbrev pub CanLookAt : QueryValue → Plan → PreparedPlan → PoolValue → Extent → ℕ → Type 0
CanLookAt q plan.Filter asked pool extent wide = Unit {0}
CanLookAt q (plan.Parts parts numbers) asked pool extent wide = q.distinct ≡ true → length q.from ≡ 2 → CanLook q parts asked pool extent wide numbers.work

-- how many reads a row over two streams leaves of three for each unit of the announced work, if it reads one and a half for each itself
abbrev pub spare_reads : QueryValue → Plan → ℕ
spare_reads q plan.Filter = 0
spare_reads q (plan.Parts parts numbers) = if nat_eq (length q.from) 2 then 2 * numbers.work - numbers.work / 2 else 0

-- how many cells a look at a cell of a part reads at most: that one, and of those of the other stream no more than there are, nor than the work
abbrev pub look_cost : PartPlan → ℕ → ℕ
look_cost part most = 1 + min most (max (stream_at part 0).size (stream_at part 1).size)

-- what a step of a cursor does: it goes on to a cell up to which all are saturated, or stays where what is left may not do for a look, or comes
-- to a cell that is not saturated
abbrev pub HasStepped : QueryValue → List PartPlan → Reading → List (List ℤ) → ℕ → Came → CursorStep → Type 0
HasStepped q parts read table most from (CursorStep.On to) =
    (to.left < from.left) × IsBefore to.at from.at.part from.at.place from.at.cell
    × (AreSaturated (Saturation.Before from.at) q parts read table → AreSaturated (Saturation.Before to.at) q parts read table)
HasStepped q parts read table most from CursorStep.Stays = from.left ≤ most
HasStepped q parts read table most from CursorStep.Open = IsClosed q parts read table → ⊥

-- a look over at most so many reads goes on from a cursor, or leaves it where a look at a cell may cost more than that
abbrev pub HasMoved : Cursor → ℕ → ℕ → Saturation → Type 0
HasMoved from budget most Saturation.All = Unit {0}
HasMoved from budget most (Saturation.Before at) = ((at ≡ from) × (budget ≤ most)) ⊎ IsBefore at from.part from.place from.cell
HasMoved from budget most Saturation.None = Unit {0}

-- what a look beside a row comes to, with DISTINCT over two streams: a row of no stream of FROM leaves the cursor where it is; beside any other the
-- look goes on, and ends for good only where a cell is not saturated
abbrev pub HasLookedBeside : QueryValue → Plan → Reading → List (List ℤ) → (named : Bool) → Cursor → Saturation → Type 0
HasLookedBeside q plan.Filter read table named from now = Unit {0}
HasLookedBeside q (plan.Parts parts numbers) read table false from now = now ≡ Saturation.Before from
HasLookedBeside q (plan.Parts parts numbers) read table true from now =
    HasMoved from (2 * numbers.work - numbers.work / 2) numbers.work now × (now ≡ Saturation.None → IsClosed q parts read table → ⊥)

-- how many reads are left after a step that goes on
abbrev pub left_after : CursorStep → ℕ
left_after (CursorStep.On to) = to.left
left_after CursorStep.Stays = 0
left_after CursorStep.Open = 0
