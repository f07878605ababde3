-- Boxes set where the first one that is the same begins.
use Rattle.std.specs.Prelude.{◌≡◌, ℕ, ◌+◌, ◌<◌, ◌^◌, ◌⊎◌, true, List, [], ◌∷◌, ◌++◌, map, length, take, slice_index_or, slice_set}
use Rattle.std.specs.List.{list_any, range_with_len}
use Rattle.sem_query.specs.declared.plan.StreamPlan.{StreamPlan}
use Rattle.sem_query.specs.declared.plan.PartPlan.{PartPlan}
use Rattle.sem_query.specs.Query.{QueryValue}
use Rattle.sem_query.specs.Plan.{stream_at}
use Rattle.sem_query.specs.Sharing.{Box, box_at, boxes_in, same_box, different_boxes, boxes, start_in, shared_cells}
use Rattle.plan_layout.specs.declared.draft.PlanDraft.{PlanDraft}
use Rattle.plan_layout.specs.declared.boxes.Slot.{Slot}
use Rattle.plan_layout.specs.declared.boxes.Boxes.{Boxes}
use Rattle.plan_layout.specs.Capped.{capped}
use Rattle.plan_layout.specs.Boxed.{boxed}
use Rattle.plan_layout.specs.Listed.{no_part, box_in, listed, IsSlot, AreListed}

-- the streams of a part from a place of FROM on, each box set where it begins in a list of boxes
abbrev pub started_streams : QueryValue → List Box → PartPlan → ℕ → List StreamPlan → List StreamPlan
started_streams q list part place [] = []
started_streams q list part place (s ∷ streams) = record s { base = start_in q list (box_at part place) } ∷ started_streams q list part (place + 1) streams

-- the part, each box set where it begins in a list of boxes
abbrev pub started_part : QueryValue → List Box → PartPlan → PartPlan
started_part q list part = record part { streams = record { items = started_streams q list part 0 part.streams.items } }

-- the plan, each box set where it begins among the different ones
abbrev pub shared : QueryValue → List PartPlan → List PartPlan
shared q plan = map (started_part q (boxes q plan)) plan

-- the parts, which had boxes that follow each other, with as many cells as their different boxes have; where that is small, each box
-- stands where it begins among these
pub record AreShared (q : QueryValue) (old new : List PartPlan) (count : ℕ) : Type 0 where
  pub size : length new ≡ length old
  pub cells : count ≡ capped (shared_cells q (boxed q 0 old))
  pub boxes : count < 2 ^ 32 → shared q (boxed q 0 old) ≡ new

-- the drafts, which had boxes that follow each other, with shared cells
pub record IsSharedDraft (q : QueryValue) (old new : PlanDraft) : Type 0 where
  pub parts : AreShared q old.parts.items new.parts.items new.cells
  pub answers : new.answers ≡ old.answers
  pub work : new.work ≡ old.work

-- ---- one box after the other

-- the part, its box at a place of FROM set
abbrev pub with_slot : PartPlan → ℕ → Slot → PartPlan
with_slot part place slot = record part { streams = record { items = slice_set part.streams.items place record (stream_at part place) { base = slot.base; size = slot.size } } }

-- the boxes of a plan up to a place of FROM in the part of a number
abbrev pub boxes_before : List PartPlan → ℕ → ℕ → List Box
boxes_before plan part place = boxes_in (take part plan) ++ map (box_in plan part) (range_with_len 0 place)

-- a box of the plan is in a list of boxes, and where the list has few cells, the stream says where it stands there
pub record IsPlaced (q : QueryValue) (list : List Box) (count : ℕ) (b : Box) (s : StreamPlan) : Type 0 where
  pub known : list_any (λ c. same_box q c b) list ≡ true
  pub slot : count < 2 ^ 32 → IsSlot q list b record { base = s.base; size = s.size }

-- the boxes of a plan up to a place of FROM in the part of a number are listed, and the parts say where these stand
pub record ArePlaced (q : QueryValue) (plan parts : List PartPlan) (list : Boxes) (part place : ℕ) : Type 0 where
  pub same : boxed q 0 parts ≡ plan
  pub entries : AreListed q plan list
  pub boxes : listed plan list ≡ different_boxes q (boxes_before plan part place)
  pub placed : (i there : ℕ) → i < length parts → there < length (slice_index_or parts i no_part).streams.items → (i < part) ⊎ ((i ≡ part) × (there < place))
      → IsPlaced q (listed plan list) list.cells (box_in plan i there) (stream_at (slice_index_or parts i no_part) there)
