-- Cells that are laid out by a list of boxes: what they tell of a history, and how they grow. The boxes of a plan are one such list,
-- and its different boxes are another.
use Rattle.std.specs.Prelude.{◌≡◌, ℕ, ◌+◌, ◌<◌, ◌≤◌, Bool, true, false, ◌&&◌, ◌==◌, nat_eq, if◌then◌else◌, List, [], ◌∷◌, ◌++◌, map, length, replicate, IsFalse, Contains, All}
use Rattle.std.specs.List.{slice_index_or, list_any}
use Rattle.std.specs.declared.option.Option.TheVariants.{None}
use Rattle.sem_query.specs.declared.cell.Cell.{Cell}
use Rattle.sem_query.specs.declared.plan.PartPlan.{PartPlan}
use Rattle.sem_query.specs.Query.{QueryValue, IsWithinLimits, is_filter}
use Rattle.sem_query.specs.Meaning.{Arrival, by_column, new_answers}
use Rattle.sem_query.specs.Domains.{RowKeeps, RowsKeep}
use Rattle.sem_query.specs.Violation.{IsViolation}
use Rattle.sem_query.specs.Plan.{stream_at, dims_at, ArePartPlans, IsPlan}
use Rattle.sem_query.specs.Serving.{KeepsStreams, AreBased}
use Rattle.sem_query.specs.Admission.{admits}
use Rattle.sem_query.specs.Cells.{row_place, content, synopsis, printed}
use Rattle.sem_query.specs.Combinations.{read_from}
use Rattle.sem_query.specs.Future.{future}
use Rattle.sem_query.specs.Merge.{merged, merge}
use Rattle.sem_query.specs.Numbers.{cell_count, places}
use Rattle.sem_query.specs.Sharing.{Box, box_at, boxes_in, same_box, different_boxes, boxes, sizes_in, start_in, synopsis_in, merge_in, shared_synopsis, kept_boxes, IsSharedPlan}
use Rattle.sem_laws.specs.Sufficiency.{IsReadingOf}

-- among cells that are laid out by a list of boxes, those of a box that is the same as this one begin at this number
pub record Begins (q : QueryValue) (list : List Box) (b : Box) (at : ℕ) : Type 0 where
  pub before : List Box
  pub same : Box
  pub after : List Box
  pub whole : list ≡ before ++ same ∷ after
  pub is : same_box q same b ≡ true
  pub there : at ≡ sizes_in before

-- a number is that of a place in the box of a part of the plan
pub record IsCovered (plan : List PartPlan) (n : ℕ) : Type 0 where
  pub part : PartPlan
  pub place : ℕ
  pub i : ℕ
  pub known : Contains plan part
  pub there : place < length part.streams.items
  pub inside : i < (stream_at part place).size
  pub at : (stream_at part place).base + i ≡ n

-- cells that are laid out by this list of boxes are those of the plan: each box of the plan begins at its base, the list has no other
-- boxes, and the bases reach each cell
pub record AreBoxesOf (q : QueryValue) (plan : List PartPlan) (list : List Box) : Type 0 where
  pub each : (part : PartPlan) → Contains plan part → (place : ℕ) → place < length part.streams.items → Begins q list (box_at part place) (stream_at part place).base
  pub alone : (b : Box) → Contains list b → Contains plan b.part × (b.place < length b.part.streams.items)
  pub covers : (n : ℕ) → n < sizes_in list → IsCovered plan n

-- the boxes of a plan are laid out by its bases, and so are the different boxes of a plan with shared cells
abbrev pub PlansHaveBoxes : Type 0
PlansHaveBoxes = (shared : Bool) (q : QueryValue) (plan : List PartPlan) → AreBased shared q plan → AreBoxesOf q plan (kept_boxes shared q plan)

-- the synopsis, the merge and the number of cells of a plan are those of its boxes
pub record AreOfBoxes (q : QueryValue) (plan : List PartPlan) : Type 0 where
  pub cells : (history : List Arrival) → synopsis q plan history ≡ synopsis_in q (boxes_in plan) history
  pub merges : (cs ds : List Cell) → merge plan cs ds ≡ merge_in (boxes_in plan) cs ds
  pub count : cell_count plan ≡ sizes_in (boxes_in plan)

abbrev pub SynopsesAreOfBoxes : Type 0
SynopsesAreOfBoxes = (q : QueryValue) (plan : List PartPlan) → AreOfBoxes q plan

-- cells that are laid out by boxes of the plan, read by its bases, are the cells of the history
abbrev pub BoxesAreRead : Type 0
BoxesAreRead =
    (q : QueryValue) (plan : List PartPlan) → All (KeepsStreams q) plan → (list : List Box) → AreBoxesOf q plan list
    → (history : List Arrival) → IsReadingOf q plan history (read_from (synopsis_in q list history))

-- the cells of each part and stream in the synopsis are those of its box in the shared synopsis
abbrev pub SharedCellsAgree : Type 0
SharedCellsAgree =
    (q : QueryValue) (plan : List PartPlan) → IsPlan q plan → (history : List Arrival)
    → (part : PartPlan) → Contains plan part → (place i : ℕ) → place < length q.from → i < (stream_at part place).size
    → slice_index_or (shared_synopsis q plan history) (start_in q (boxes q plan) (box_at part place) + i) Cell.Empty
    ≡ read_from (synopsis q plan history) part place i

-- synopses merge: the cells of one history after another are the merge of the cells of both, whichever boxes they are
abbrev pub BoxesMerge : Type 0
BoxesMerge =
    (q : QueryValue) (list : List Box) (history later : List Arrival)
    → synopsis_in q list (history ++ later) ≡ merge_in list (synopsis_in q list history) (synopsis_in q list later)

-- merging histories into any cells, whether they stand for a history or not: one after the other, or both at once; none changes
-- nothing, and into empty cells a history gives its own
pub record MergeInto (q : QueryValue) (list : List Box) (cells : List Cell) : Type 0 where
  pub none : merge_in list cells (synopsis_in q list []) ≡ cells
  pub more : (history later : List Arrival)
      → merge_in list cells (synopsis_in q list (history ++ later)) ≡ merge_in list (merge_in list cells (synopsis_in q list history)) (synopsis_in q list later)
  pub size : (history : List Arrival) → length (merge_in list cells (synopsis_in q list history)) ≡ sizes_in list

abbrev pub BasesGrow : Type 0
BasesGrow =
    (q : QueryValue) (list : List Box)
    → ((cells : List Cell) → length cells ≡ sizes_in list → MergeInto q list cells)
    × ((history : List Arrival) → merge_in list (replicate (sizes_in list) Cell.Empty) (synopsis_in q list history) ≡ synopsis_in q list history)

-- merging one row into any cells changes the one cell of each box that the row lies in, and no other
pub record MergesRowIn (q : QueryValue) (plan : List PartPlan) (list : List Box) (cells : List Cell) (r : Arrival) : Type 0 where
  pub size : length (merge_in list cells (synopsis_in q list (r ∷ []))) ≡ sizes_in list
  pub at : (part : PartPlan) → Contains plan part → (place i : ℕ) → place < length part.streams.items → i < (stream_at part place).size
      → read_from (merge_in list cells (synopsis_in q list (r ∷ []))) part place i
      ≡ (if (r.stream == slice_index_or q.from place 0) && (admits q part place (by_column r.values) && nat_eq (row_place (dims_at part place) (by_column r.values)) i)
      then merged (stream_at part place).kind (read_from cells part place i) (content (stream_at part place).kind (r.values ∷ []))
      else read_from cells part place i)

abbrev pub RowsMergeIn : Type 0
RowsMergeIn =
    (q : QueryValue) (plan : List PartPlan) → All (KeepsStreams q) plan → (list : List Box) → AreBoxesOf q plan list
    → (cells : List Cell) → length cells ≡ sizes_in list → (r : Arrival) → MergesRowIn q plan list cells r

-- two boxes of a plan have a cell in common only where they are the same, and then all, place by place
abbrev pub BoxesMeetWhole : Type 0
BoxesMeetWhole =
    (q : QueryValue) (plan : List PartPlan) → All (KeepsStreams q) plan → (list : List Box) → AreBoxesOf q plan list
    → ((part : PartPlan) → Contains plan part → (place : ℕ) → place < length part.streams.items
    → (stream_at part place).base + (stream_at part place).size ≤ sizes_in list)
    × ((part other : PartPlan) (place there i j : ℕ) → Contains plan part → Contains plan other
    → place < length part.streams.items → there < length other.streams.items → i < (stream_at part place).size → j < (stream_at other there).size
    → (stream_at part place).base + i ≡ (stream_at other there).base + j
    → (same_box q (box_at part place) (box_at other there) ≡ true) × (i ≡ j))

-- cells that are laid out by boxes of a plan are fixed by what stands at each place of each of its boxes
abbrev pub BoxesFixCells : Type 0
BoxesFixCells =
    (q : QueryValue) (plan : List PartPlan) → All (KeepsStreams q) plan → (list : List Box) → AreBoxesOf q plan list
    → (cells others : List Cell) → length cells ≡ sizes_in list → length others ≡ sizes_in list
    → ((part : PartPlan) → Contains plan part → (place i : ℕ) → place < length part.streams.items → i < (stream_at part place).size
    → read_from cells part place i ≡ read_from others part place i)
    → cells ≡ others

-- where no condition is violated and the rows keep to the domains, the shared synopsis and the printed tuples tell the answers to the
-- next row
abbrev pub SharedSynopsisSuffices : Type 0
SharedSynopsisSuffices =
    (q : QueryValue) (plan : List PartPlan) → IsWithinLimits q → IsFalse (is_filter q) → IsSharedPlan q plan → IsViolation q None
    → (history : List Arrival) (r : Arrival) → RowsKeep q history → RowKeeps q r
    → future q plan (read_from (shared_synopsis q plan history)) (printed q history) r ≡ new_answers q history r

-- a query of which no condition is violated has at most one plan with shared cells
abbrev pub HasOneSharedPlan : Type 0
HasOneSharedPlan =
    (q : QueryValue) (plan other : List PartPlan) → IsFalse (is_filter q) → IsViolation q None → IsSharedPlan q plan → IsSharedPlan q other → plan ≡ other

-- a part with its boxes moved: the box at each place of FROM begins where it does among the boxes of a list
abbrev pub moved : QueryValue → List Box → PartPlan → PartPlan
moved q list part =
    record part { streams = record { items = map (λ place. record (stream_at part place) { base = start_in q list (box_at part place) }) (places part) } }

-- the parts of a plan with their boxes moved together: each begins where the first that is the same begins
abbrev pub moved_together : QueryValue → List PartPlan → List PartPlan
moved_together q plan = map (moved q (boxes q plan)) plan

-- a query whose parts have plans has a plan with shared cells
abbrev pub SharedPlansExist : Type 0
SharedPlansExist = (q : QueryValue) (plan : List PartPlan) → ArePartPlans q plan → IsSharedPlan q (moved_together q plan)

-- one box more is a new one, which begins behind all, or one that is there, and no start moves: so the different boxes of a plan are told
-- one after the other
pub record GrowByOne (q : QueryValue) (list : List Box) (b : Box) : Type 0 where
  pub boxes : different_boxes q (list ++ b ∷ []) ≡ (if list_any (λ c. same_box q c b) (different_boxes q list) then different_boxes q list else different_boxes q list ++ b ∷ [])
  pub begins : list_any (λ c. same_box q c b) list ≡ false → start_in q (list ++ b ∷ []) b ≡ sizes_in list
  pub stays : (more : List Box) (c : Box) → list_any (λ o. same_box q o c) list ≡ true → start_in q (list ++ more) c ≡ start_in q list c

abbrev pub BoxesGrowByOne : Type 0
BoxesGrowByOne = (q : QueryValue) (list : List Box) (b : Box) → GrowByOne q list b
