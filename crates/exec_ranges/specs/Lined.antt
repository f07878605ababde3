-- Cells that stand equally far apart.
use Rattle.std.specs.Prelude.{◌≡◌, ◌≢◌, ℕ, ◌+◌, ◌*◌, ◌<◌, ◌≤ℤ◌, map, List, Option, IfSome}
use Rattle.sem_query.specs.Boxes.{dim_size, box_size, place_of, values_at}
use Rattle.sem_query.specs.declared.plan.Dim.{Dim}
use Rattle.sem_query.specs.declared.plan.PartPlan.{PartPlan}
use Rattle.sem_query.specs.Plan.{stream_at, dims_at}
use Rattle.exec_pool.specs.declared.scan.StridedCells.{StridedCells}

-- in a box whose first cell has this number, the cells for the combinations of these values stand on the line
abbrev pub IsLine : ℕ → List Dim → List Dim → StridedCells → Type 0
IsLine base full dims line = (i : ℕ) → i < box_size dims → base + place_of full (values_at dims i) ≡ line.first + i * line.stride

-- the cells for these values at a place of FROM stand on a line, where there is one; the arriving row has none
abbrev pub StandOn : PartPlan → ℕ → ℕ → List Dim → Option StridedCells → Type 0
StandOn part arriving place dims line = IfSome line (λ l. (place ≢ arriving) × IsLine (stream_at part place).base (dims_at part place) dims l)

-- a dim with the one value that is left of another one
pub record IsFixed (whole narrowed fixed : Dim) : Type 0 where
  pub is : fixed ≡ narrowed
  pub one : dim_size fixed ≡ 1
  pub low : whole.lo ≤ℤ fixed.lo
  pub high : fixed.lo ≤ℤ whole.hi

-- the narrowed dims of a place, one value of each, and the number of the cell for them
pub record AreFixed (part : PartPlan) (place : ℕ) (narrowed fixed : List Dim) (first : ℕ) : Type 0 where
  pub are : fixed ≡ narrowed
  pub one : box_size fixed ≡ 1
  pub cell : (stream_at part place).base + place_of (dims_at part place) (map (λ d. d.lo) fixed) ≡ first
