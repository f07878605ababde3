-- Parts whose cells a row leaves as they are, one after the other.
use Rattle.std.specs.Prelude.{◌≡◌, ℕ, ◌<◌, ◌≤◌, ◌*◌, ℤ, List, length, Option, Some, None, true, slice_get, slice_index_or}
use Rattle.std.specs.Option.{IfSome}
use Rattle.sem_query.specs.declared.plan.PartPlan.{PartPlan}
use Rattle.sem_query.specs.Query.{QueryValue}
use Rattle.sem_query.specs.Meaning.{by_column}
use Rattle.sem_query.specs.Admission.{admits}
use Rattle.sem_query.specs.Combinations.{Reading, read_from}
use Rattle.sem_laws.specs.Closed.{own_place, with_own}
use Rattle.exec_pool.specs.declared.pool.Extent.{Extent}
use Rattle.exec_pool.specs.Extents.{PoolValue, cells_of}
use Rattle.exec_synopsis.specs.declared.axes.Placement.{Placement}
use Rattle.exec_synopsis.specs.declared.own.OwnCell.{OwnCell}
use Rattle.exec_synopsis.specs.Axes.{IsPlacement}
use Rattle.exec_synopsis.specs.Own.{IsOwnCell}
use Rattle.exec_synopsis.specs.Premises.{IsHeld}
use Rattle.exec_part_index.specs.declared.part_index.PartIndex.{PartIndex}
use Rattle.exec_part_index.specs.PartIndex.{buckets, row_bucket}
use Rattle.exec_part_index.specs.declared.left.Met.{Met}
use Rattle.exec_part_index.specs.declared.left.Reached.{Reached}

-- the extent is live and has the cells of all parts
abbrev pub AreHeld : QueryValue → List PartPlan → PoolValue → Extent → Type 0
AreHeld q parts pool extent = (k : ℕ) (part : PartPlan) → slice_get parts k ≡ Some part → IsHeld q part pool extent

-- a row leaves the cell of a part that it falls into as it is
abbrev pub LeavesCell : PartPlan → Reading → ℕ → List ℤ → Type 0
LeavesCell part read pos values = with_own part read pos values ≡ read part pos (own_place part pos values)

-- of the parts from n on and before m, each that admits a row keeps its cell as it is
abbrev pub LeavesCells : QueryValue → List PartPlan → Reading → ℕ → List ℤ → ℕ → ℕ → Type 0
LeavesCells q parts read pos values n m =
    (k : ℕ) (part : PartPlan) → n ≤ k → k < m → slice_get parts k ≡ Some part → admits q part pos (by_column values) ≡ true → LeavesCell part read pos values

-- where a row stands in the part of a number
abbrev pub IsPlaced : QueryValue → List PartPlan → ℕ → List ℤ → ℕ → Placement → Type 0
IsPlaced q parts pos row i placement =
    (part : PartPlan) → slice_get parts i ≡ Some part → IsPlacement part pos row (admits q part pos (by_column row)) placement

-- this is the cell that a row falls into in the part of a number, and one of the extent
pub record IsCellOf (parts : List PartPlan) (pos : ℕ) (row : List ℤ) (pool : PoolValue) (extent : Extent) (i : ℕ) (cell : OwnCell) : Type 0 where
  pub own : (part : PartPlan) → slice_get parts i ≡ Some part → IsOwnCell part pos row (cells_of pool extent) cell
  pub inside : cell.number < 64 * extent.pages

-- a part of the row's bucket has this number, or it is the number of all parts
pub record IsOnChain (q : QueryValue) (parts : List PartPlan) (c : PartIndex) (row : List ℤ) (i : ℕ) : Type 0 where
  pub within : i ≤ length parts
  pub there : i < length parts → slice_index_or (buckets c) i 0 ≡ row_bucket c (by_column row)

-- a row that is at the part of number n passes over parts whose cells it leaves as they are, to the part of number m
pub record HasPassed (q : QueryValue) (parts : List PartPlan) (c : PartIndex) (pos : ℕ) (row : List ℤ) (pool : PoolValue) (extent : Extent) (n m : ℕ) : Type 0 where
  pub behind : n ≤ m
  pub left : LeavesCells q parts (read_from (cells_of pool extent)) pos row n m
  pub there : IsOnChain q parts c row m

-- there it is told where the row stands, and its own cell where that was read
pub record IsMet (q : QueryValue) (parts : List PartPlan) (pos : ℕ) (row : List ℤ) (pool : PoolValue) (extent : Extent) (met : Met) : Type 0 where
  pub inside : met.i < length parts
  pub placed : IsPlaced q parts pos row met.i met.placement
  pub own : IfSome met.own (λ own. IsCellOf parts pos row pool extent met.i own)

-- where a row comes to from the part of number n
abbrev pub HasReached : QueryValue → List PartPlan → PartIndex → ℕ → List ℤ → PoolValue → Extent → ℕ → Reached → Type 0
HasReached q parts c pos row pool extent n (Reached.Unasked m) = (n < m) × HasPassed q parts c pos row pool extent n m
HasReached q parts c pos row pool extent n (Reached.Part met) = HasPassed q parts c pos row pool extent n met.i × IsMet q parts pos row pool extent met

-- how many cells were read where the own cell may be at hand
abbrev pub reads_of : Option OwnCell → ℕ
reads_of None = 0
reads_of (Some own) = 1

-- the number of the part that a row came to
abbrev pub number_of : Reached → ℕ
number_of (Reached.Unasked i) = i
number_of (Reached.Part met) = met.i

-- how many of its cells were read
abbrev pub reads_to : Reached → ℕ
reads_to (Reached.Unasked i) = 0
reads_to (Reached.Part met) = reads_of met.own
