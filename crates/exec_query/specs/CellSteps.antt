-- What an arriving row does to the cells of the parts, one part after the other.
use Rattle.std.specs.Prelude.{◌≡◌, ◌≢◌, true, ℕ, ◌+◌, ◌*◌, ◌<◌, ◌≤◌, ◌^◌, ◌&&◌, ◌==◌, nat_eq, Bool, ℤ, List, [], ◌∷◌, length, take, map, Contains, IsTrue, IsFalse, if◌then◌else◌, slice_index_or, slice_set}
use Rattle.std.specs.List.{flat_map, list_any}
use Rattle.std.specs.Option.{option_to_list}
use Rattle.sem_query.specs.declared.cell.Cell.{Cell}
use Rattle.sem_query.specs.declared.plan.PartPlan.{PartPlan}
use Rattle.sem_query.specs.declared.plan.Plan.{Plan}
use Rattle.sem_query.specs.declared.plan.Plan.TheVariants as plan
use Rattle.sem_query.specs.Query.{QueryValue, IsWithinLimits, is_filter}
use Rattle.sem_query.specs.Meaning.{Arrival, by_column}
use Rattle.sem_query.specs.Plan.{stream_at, dims_at}
use Rattle.sem_query.specs.Serving.{IsServing}
use Rattle.sem_query.specs.Filter.{filter_tuple}
use Rattle.sem_query.specs.Admission.{admits}
use Rattle.sem_query.specs.Cells.{row_place, content}
use Rattle.sem_query.specs.Merge.{merged}
use Rattle.sem_query.specs.Sharing.{box_at, same_box}
use Rattle.sem_laws.specs.Probing.{AreWithin}
use Rattle.sem_query.specs.Combinations.{Reading, Found, found_in, read_from}
use Rattle.sem_laws.specs.Places.{IsBox}
use Rattle.exec_pool.specs.declared.pool.Extent.{Extent}
use Rattle.exec_pool.specs.Extents.{PoolValue, cells_of, with_cells, IsLive}
use Rattle.exec_synopsis.specs.Premises.{AreKeeping, AreFitting, HasRoom, row_cell}
use Rattle.exec_answer_table.specs.Entries.{Entry, has}
use Rattle.sem_forms.specs.Answers.{HoldsAllTuples}
use Rattle.exec_part_index.specs.Leaving.{LeavesCell}
use Rattle.exec_part_index.specs.Owners.{has_base}

-- a row of the stream at a place of FROM
abbrev pub arrives : QueryValue → ℕ → List ℤ → Arrival
arrives q pos values = record { stream = slice_index_or q.from pos 0; values = values }

-- what the cells of all parts answer to a row
abbrev pub all_found : QueryValue → List PartPlan → Reading → Arrival → List Found
all_found q plan read r = flat_map (λ part. found_in q part read r) plan

-- the pool after one part took a row: where the part admits the row and takes it into a box of its own, the row's own cell takes it
abbrev pub with_row : Bool → QueryValue → PartPlan → ℕ → List ℤ → Extent → PoolValue → PoolValue
with_row owns q part pos values extent pool =
    if admits q part pos (by_column values) && owns
    then with_cells pool extent (slice_set (cells_of pool extent) (row_cell part pos values) (merged (stream_at part pos).kind (slice_index_or (cells_of pool extent) (row_cell part pos values) Cell.Empty) (content (stream_at part pos).kind (values ∷ []))))
    else pool

-- whether a row lies at place i of the box of a part at a place of FROM
abbrev pub lies : QueryValue → Arrival → PartPlan → ℕ → ℕ → Bool
lies q r part place i =
    (r.stream == slice_index_or q.from place 0) && (admits q part place (by_column r.values) && nat_eq (row_place (dims_at part place) (by_column r.values)) i)

-- the row was taken into the boxes of the first n parts, and all else is as before
pub record IsInserted (q : QueryValue) (plan : List PartPlan) (r : Arrival) (n : ℕ) (cells others : List Cell) : Type 0 where
  pub size : length others ≡ length cells
  pub at : (m : ℕ) (part : PartPlan) (place i : ℕ) → IsBox plan m part place i
      → read_from others part place i
      ≡ (if has_base (take n plan) part place && lies q r part place i
      then merged (stream_at part place).kind (read_from cells part place i) (content (stream_at part place).kind (r.values ∷ []))
      else read_from cells part place i)
  pub rest : (k : ℕ) → ((m : ℕ) (part : PartPlan) (place i : ℕ) → IsBox plan m part place i → (stream_at part place).base + i ≢ k)
      → slice_index_or others k Cell.Empty ≡ slice_index_or cells k Cell.Empty

-- the first n parts took the row, and no other extent changed
pub record HasTaken (q : QueryValue) (plan : List PartPlan) (extent : Extent) (r : Arrival) (n : ℕ) (before after : PoolValue) : Type 0 where
  pub live : IsLive after extent
  pub only : after ≡ with_cells before extent (cells_of after extent)
  pub inserted : IsInserted q plan r n (cells_of before extent) (cells_of after extent)

-- the cells of the part can count one row more
abbrev pub CanCount : PartPlan → Reading → Type 0
CanCount part read = (place i : ℕ) → place < length part.streams.items → i < (stream_at part place).size → HasRoom (read part place i)

-- two boxes that have a cell in common are the same, place by place
abbrev pub MeetWhole : QueryValue → List PartPlan → Type 0
MeetWhole q parts =
    (m n : ℕ) (part other : PartPlan) (place there i j : ℕ) → IsBox parts m part place i → IsBox parts n other there j
    → (stream_at part place).base + i ≡ (stream_at other there).base + j
    → (same_box q (box_at part place) (box_at other there) ≡ true) × (i ≡ j)

-- the parts keep the streams of the query, their boxes lie within some cells of the extent and meet only where they are the same, and each cell
-- is of its kind and can count one row more
pub record AreReady (q : QueryValue) (parts : List PartPlan) (pool : PoolValue) (extent : Extent) : Type 0 where
  pub limits : IsWithinLimits q
  pub plan : AreKeeping q parts
  pub cells : ℕ
  pub inside : AreWithin (length q.from) cells parts
  pub meet : MeetWhole q parts
  pub few : cells < 2 ^ 32
  pub live : IsLive pool extent
  pub within : cells ≤ 64 * extent.pages
  pub fitting : (part : PartPlan) → Contains parts part → AreFitting part (read_from (cells_of pool extent))
  pub room : (part : PartPlan) → Contains parts part → CanCount part (read_from (cells_of pool extent))

-- with DISTINCT, where the query has cells: whatever a part answers to a row that leaves its cell as it is has an entry
pub record AnswersNothingNew (q : QueryValue) (parts : List PartPlan) (read : Reading) (entries : List Entry) : Type 0 where
  pub once : q.distinct ≡ true
  pub several : 1 < length q.from
  pub old : (part : PartPlan) → Contains parts part → (pos : ℕ) (values : List ℤ) → pos < length q.from → admits q part pos (by_column values) ≡ true
      → LeavesCell part read pos values → (f : Found) → Contains (found_in q part read (arrives q pos values)) f → has f.tuple entries ≡ true

-- what a filter answers to a row by that row alone
abbrev pub own_found : QueryValue → Arrival → List Found
own_found q r = map (λ t. record { tuple = t; count = 1 }) (option_to_list (filter_tuple q r))

-- what the plan of a query answers to a row: nothing to a row of a stream outside FROM
abbrev pub answered_by : QueryValue → Plan → Reading → Arrival → List Found
answered_by q plan.Filter read r = own_found q r
answered_by q (plan.Parts parts numbers) read r = if list_any (λ stream. r.stream == stream) q.from then all_found q parts read r else []

-- the parts of a plan serve the query, wherever their boxes begin, and there is room for all their tuples among the answers that are announced
abbrev pub HasParts : QueryValue → Plan → Type 0
HasParts q plan.Filter = IsTrue (is_filter q)
HasParts q (plan.Parts parts numbers) = IsFalse (is_filter q) × IsServing q parts × HoldsAllTuples q parts numbers.answers

-- the cells of a plan are ready for a row; a filter has none
abbrev pub IsPlanReady : QueryValue → Plan → PoolValue → Extent → Type 0
IsPlanReady q plan.Filter pool extent = IsLive pool extent
IsPlanReady q (plan.Parts parts numbers) pool extent = AreReady q parts pool extent
