-- What the calls need of a plan and of the cells.
use Rattle.std.specs.Prelude.{◌≡◌, ℕ, ◌+◌, ◌*◌, ◌<◌, ◌≤◌, ◌^◌, ℤ, List, length, All, Contains}
use Rattle.sem_query.specs.declared.cell.Cell.{Cell}
use Rattle.sem_query.specs.declared.cell.Cell.TheVariants.{Empty, Count, Present, Extreme}
use Rattle.sem_query.specs.declared.plan.StreamPlan.{StreamPlan}
use Rattle.sem_query.specs.declared.plan.PartPlan.{PartPlan}
use Rattle.sem_query.specs.Boxes.{box_size, AreFull}
use Rattle.sem_query.specs.Query.{QueryValue}
use Rattle.sem_query.specs.Plan.{stream_at, dims_at}
use Rattle.sem_query.specs.Serving.{KeepsStreams, AreOfColumns}
use Rattle.sem_query.specs.Cells.{row_place, FitsKind}
use Rattle.sem_query.specs.Combinations.{Reading, read_from}
use Rattle.sem_query.specs.Meaning.{by_column}
use Rattle.sem_query.specs.Numbers.{share}
use Rattle.sem_query.specs.Probing.{tried_share}
use Rattle.sem_laws.specs.Probing.{IsWalkable}
use Rattle.exec_pool.specs.declared.pool.Extent.{Extent}
use Rattle.exec_pool.specs.Extents.{PoolValue, cells_of, IsLive}

-- parts that a walk can go over: each keeps the streams of the query, and its links are between columns that a row may have
pub record AreKeeping (q : QueryValue) (plan : List PartPlan) : Type 0 where
  pub plans : All (KeepsStreams q) plan
  pub links : (part : PartPlan) → Contains plan part → AreOfColumns part

-- a part that keeps the streams of the query, of which each place can be walked, within some number of cells, and tries no more than its share
pub record IsWalked (q : QueryValue) (part : PartPlan) : Type 0 where
  pub cells : ℕ
  pub few : cells < 2 ^ 32
  pub plan : KeepsStreams q part
  pub links : AreOfColumns part
  pub places : (place : ℕ) → place < length q.from → IsWalkable q part cells place
  pub tried : (arriving : ℕ) → arriving < length q.from → tried_share part arriving ≤ share part

-- each cell of the part is of its kind
abbrev pub AreFitting : PartPlan → Reading → Type 0
AreFitting part read = (place i : ℕ) → place < length part.streams.items → i < (stream_at part place).size → FitsKind (stream_at part place).kind (read part place i)

-- the extent is live, and has the cells of the plan
pub record IsHeld (q : QueryValue) (part : PartPlan) (pool : PoolValue) (extent : Extent) : Type 0 where
  pub live : IsLive pool extent
  pub walked : IsWalked q part
  pub within : walked.cells ≤ 64 * extent.pages

-- and each cell of the part is of its kind
pub record IsReady (q : QueryValue) (part : PartPlan) (pool : PoolValue) (extent : Extent) : Type 0 where
  pub held : IsHeld q part pool extent
  pub fitting : AreFitting part (read_from (cells_of pool extent))

-- the box of a stream lies within so many cells, one for each combination of values
pub record IsLaidOut (plan : StreamPlan) (cells : ℕ) : Type 0 where
  pub full : AreFull plan.dims.items
  pub size : plan.size ≡ box_size plan.dims.items
  pub room : plan.base + plan.size ≤ cells
  pub few : plan.base + plan.size < 2 ^ 32

-- the number of the cell that stands for a row at a place of FROM
abbrev pub row_cell : PartPlan → ℕ → List ℤ → ℕ
row_cell part place row = (stream_at part place).base + row_place (dims_at part place) (by_column row)

-- a cell can count one row more
abbrev pub HasRoom : Cell → Type 0
HasRoom Empty = Unit {0}
HasRoom (Count n) = n < 2 ^ 40
HasRoom Present = Unit {0}
HasRoom (Extreme z) = Unit {0}
