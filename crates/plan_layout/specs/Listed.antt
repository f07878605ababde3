-- Boxes that are listed, each once, and the chains by which they are found: boxes of one bucket of codes stand in one chain.
use Rattle.std.specs.Prelude.{◌≡◌, ◌≢◌, ℕ, ◌-◌, ◌%◌, ◌^◌, ◌<◌, ◌≤◌, true, false, List, [], ◌∷◌, ◌++◌, map, length, slice_index_or, if◌then◌else◌, Option, Some, None, All, Contains}
use Rattle.std.specs.List.{list_any}
use Rattle.sem_query.specs.declared.plan.PartPlan.{PartPlan}
use Rattle.sem_query.specs.Query.{QueryValue}
use Rattle.sem_query.specs.Sharing.{Box, box_at, size_in, same_box, sizes_in, start_in}
use Rattle.plan_layout.specs.declared.boxes.Slot.{Slot}
use Rattle.plan_layout.specs.declared.boxes.BoxEntry.{BoxEntry}
use Rattle.plan_layout.specs.declared.boxes.Boxes.{Boxes}
use Rattle.plan_layout.specs.Capped.{capped}
use Rattle.plan_layout.specs.Codes.{code_of}

-- no part
abbrev pub no_part : PartPlan
no_part = record { signs = record { items = [] }; local = []; streams = record { items = [] }; equal = record { items = [] }; less = record { items = [] }; soft = record { items = [] } }

-- the box of the stream at a place of FROM in the part of a number
abbrev pub box_in : List PartPlan → ℕ → ℕ → Box
box_in plan i place = box_at (slice_index_or plan i no_part) place

-- the box that an entry stands for
abbrev pub box_of : List PartPlan → BoxEntry → Box
box_of plan e = box_in plan e.part e.place

-- the boxes that are listed
abbrev pub listed : List PartPlan → Boxes → List Box
listed plan boxes = map (box_of plan) boxes.entries.items

-- the boxes with one more, unless the same one is among them
abbrev pub with_box : QueryValue → List Box → Box → List Box
with_box q list b = if list_any (λ c. same_box q c b) list then list else list ++ b ∷ []

-- the buckets of entries, of so many buckets
abbrev pub buckets_of : ℕ → List BoxEntry → List ℕ
buckets_of count entries = map (λ e. e.code % count) entries

-- the last of the first n numbers that is of the bucket, by its number from 1, or 0 where none is
pub record IsLast (buckets : List ℕ) (bucket n i : ℕ) : Type 0 where
  pub within : i ≤ n
  pub passed : (k : ℕ) → i ≤ k → k < n → slice_index_or buckets k 0 ≢ bucket
  pub there : 0 < i → slice_index_or buckets (i - 1) 0 ≡ bucket

-- of so many buckets each has its last entry, and each entry has the last one of its bucket before it, each by its number from 1
pub record AreChained (count : ℕ) (entries : List BoxEntry) (lasts : List ℕ) : Type 0 where
  pub some : 0 < count
  pub last : (b : ℕ) → b < count → IsLast (buckets_of count entries) b (length entries) (slice_index_or lasts b 0)
  pub before : (k : ℕ) (e : BoxEntry) → k < length entries → IsLast (buckets_of count entries) (slice_index_or (buckets_of count entries) k 0) k (slice_index_or entries k e).before

-- the box stands here in a list of boxes
pub record IsSlot (q : QueryValue) (list : List Box) (b : Box) (slot : Slot) : Type 0 where
  pub base : slot.base ≡ start_in q list b
  pub size : slot.size ≡ size_in b

-- an entry is of a stream of a part of the plan, and has the code of its box
pub record IsEntry (q : QueryValue) (plan : List PartPlan) (e : BoxEntry) : Type 0 where
  pub known : e.part < length plan
  pub here : e.place < length (slice_index_or plan e.part no_part).streams.items
  pub code : e.code ≡ code_of q (box_of plan e)

-- boxes of a plan are listed, with the number of their cells; where that is small, each entry says where its box stands
pub record AreListed (q : QueryValue) (plan : List PartPlan) (boxes : Boxes) : Type 0 where
  pub entries : All (IsEntry q plan) boxes.entries.items
  pub chained : AreChained (length boxes.lasts.items) boxes.entries.items boxes.lasts.items
  pub cells : boxes.cells ≡ capped (sizes_in (listed plan boxes))
  pub slots : boxes.cells < 2 ^ 32 → All (λ e. IsSlot q (listed plan boxes) (box_of plan e) e.slot) boxes.entries.items

-- where the same box stands that is listed, or none where it is not listed
abbrev pub IsFound : QueryValue → List PartPlan → Boxes → Box → Option Slot → Type 0
IsFound q plan boxes b None = list_any (λ c. same_box q c b) (listed plan boxes) ≡ false
IsFound q plan boxes b (Some slot) = (e : BoxEntry) × Contains boxes.entries.items e × (same_box q (box_of plan e) b ≡ true) × (slot ≡ e.slot)

-- no boxes, and some buckets
pub record IsEmpty (boxes : Boxes) : Type 0 where
  pub entries : boxes.entries.items ≡ []
  pub some : 0 < length boxes.lasts.items
  pub lasts : All (λ n. n ≡ 0) boxes.lasts.items
  pub cells : boxes.cells ≡ 0
