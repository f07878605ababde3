-- Shared cells: the boxes of a plan, which of them keep the same cells whatever the rows, and the plan in which those stand once.
use Rattle.std.specs.Prelude.{◌≡◌, ℕ, ◌+◌, ◌<◌, Bool, true, false, not, ◌&&◌, ◌||◌, nat_eq, List, [], ◌∷◌, map, filter, length, if◌then◌else◌, Contains, All, IsTrue, IsFalse}
use Rattle.std.specs.List.{flat_map, sum_by}
use Rattle.std.specs.Ordering.{int_eq}
use Rattle.sem_query.specs.declared.cell.Cell.{Cell}
use Rattle.sem_query.specs.declared.part.Sign.{Sign}
use Rattle.sem_query.specs.declared.part.Pair.{Pair}
use Rattle.sem_query.specs.declared.atom.Op.{Op}
use Rattle.sem_query.specs.declared.plan.Dim.{Dim}
use Rattle.sem_query.specs.declared.plan.Kind.{Kind}
use Rattle.sem_query.specs.declared.plan.LocalCondition.{LocalCondition}
use Rattle.sem_query.specs.declared.plan.Numbers.{Numbers}
use Rattle.sem_query.specs.declared.plan.PartPlan.{PartPlan}
use Rattle.sem_query.specs.declared.plan.Plan.{Plan}
use Rattle.sem_query.specs.declared.plan.Plan.TheVariants as plan
use Rattle.sem_query.specs.Query.{QueryValue, attr_eq, is_filter}
use Rattle.sem_query.specs.Meaning.{Arrival}
use Rattle.sem_query.specs.Parts.{AreParts, pairs, is_within, element_eq}
use Rattle.sem_query.specs.Plan.{stream_at, dims_at, IsPartPlan, IsPlan}
use Rattle.sem_query.specs.Admission.{sign_eq}
use Rattle.sem_query.specs.Cells.{upto, cell_of}
use Rattle.sem_query.specs.Merge.{merged_cells}
use Rattle.sem_query.specs.Numbers.{places, numbers_of}

-- a box: what is kept of the stream at a place of FROM in a part
pub record Box : Type 0 where
  pub part : PartPlan
  pub place : ℕ

abbrev pub box_at : PartPlan → ℕ → Box
box_at part place = record { part = part; place = place }

-- how many cells a box has
abbrev pub size_in : Box → ℕ
size_in b = (stream_at b.part b.place).size

-- the boxes of a plan, by part and then by FROM
abbrev pub boxes_in : List PartPlan → List Box
boxes_in plan = flat_map (λ part. map (box_at part) (places part)) plan

-- the pairs of which both sides are of the stream at a place of FROM have the same signs
abbrev pub same_signs : ℕ → List Pair → List Sign → List Sign → Bool
same_signs place [] ss ts = true
same_signs place (p ∷ ps) [] [] = true
same_signs place (p ∷ ps) [] (t ∷ ts) = false
same_signs place (p ∷ ps) (s ∷ ss) [] = false
same_signs place (p ∷ ps) (s ∷ ss) (t ∷ ts) = (not (is_within place p.left p.right) || sign_eq s t) && same_signs place ps ss ts

abbrev pub same_op : Op → Op → Bool
same_op Op.Lt Op.Lt = true
same_op Op.Eq Op.Eq = true
same_op Op.Gt Op.Gt = true
same_op Op.Le Op.Le = true
same_op Op.Ge Op.Ge = true
same_op Op.Ne Op.Ne = true
same_op o p = false

abbrev pub same_local : LocalCondition → LocalCondition → Bool
same_local t u = (attr_eq t.left u.left && element_eq t.right u.right) && (same_op t.op u.op && int_eq t.by u.by)

abbrev pub same_locals : List LocalCondition → List LocalCondition → Bool
same_locals [] [] = true
same_locals [] (u ∷ us) = false
same_locals (t ∷ ts) [] = false
same_locals (t ∷ ts) (u ∷ us) = same_local t u && same_locals ts us

-- what else the stream at a place is asked
abbrev pub locals_at : PartPlan → ℕ → List LocalCondition
locals_at part place = filter (λ t. is_within place t.left t.right) part.local

abbrev pub same_dim : Dim → Dim → Bool
same_dim d e = attr_eq d.attr e.attr && (int_eq d.lo e.lo && int_eq d.hi e.hi)

abbrev pub same_dims : List Dim → List Dim → Bool
same_dims [] [] = true
same_dims [] (e ∷ es) = false
same_dims (d ∷ ds) [] = false
same_dims (d ∷ ds) (e ∷ es) = same_dim d e && same_dims ds es

abbrev pub same_kind : Kind → Kind → Bool
same_kind Kind.Count Kind.Count = true
same_kind Kind.Present Kind.Present = true
same_kind (Kind.Least a) (Kind.Least b) = attr_eq a b
same_kind (Kind.Greatest a) (Kind.Greatest b) = attr_eq a b
same_kind k l = false

-- two boxes are the same: of one stream that is asked the same, with the same dims in the same ranges, and the same kind of cells
abbrev pub same_box : QueryValue → Box → Box → Bool
same_box q b c =
    nat_eq b.place c.place
    && ((same_signs b.place (pairs q) b.part.signs.items c.part.signs.items && same_locals (locals_at b.part b.place) (locals_at c.part c.place))
    && (same_dims (dims_at b.part b.place) (dims_at c.part c.place)
    && same_kind (stream_at b.part b.place).kind (stream_at c.part c.place).kind))

-- the different boxes among these, each where it stands first
abbrev pub different_boxes : QueryValue → List Box → List Box
different_boxes q [] = []
different_boxes q (b ∷ boxes) = b ∷ filter (λ c. not (same_box q b c)) (different_boxes q boxes)

-- the different boxes of a plan, in the order of their first parts and then of FROM
abbrev pub boxes : QueryValue → List PartPlan → List Box
boxes q plan = different_boxes q (boxes_in plan)

-- what stands at each place of each of these boxes
abbrev pub spread : {X : Type 0} → (PartPlan → ℕ → ℕ → X) → List Box → List X
spread f boxes = flat_map (λ b. upto (f b.part b.place) (size_in b)) boxes

-- how many cells these boxes have
abbrev pub sizes_in : List Box → ℕ
sizes_in boxes = sum_by size_in boxes

-- the number from which the cells of a box stand: behind those of the boxes before the first that is the same
abbrev pub start_in : QueryValue → List Box → Box → ℕ
start_in q [] b = 0
start_in q (c ∷ cs) b = if same_box q c b then 0 else size_in c + start_in q cs b

-- the kinds of the cells of these boxes
abbrev pub kinds_in : List Box → List Kind
kinds_in boxes = spread (λ part place i. (stream_at part place).kind) boxes

-- the cells that these boxes have of a history
unfoldable pub synopsis_in : QueryValue → List Box → List Arrival → List Cell
synopsis_in q boxes history = spread (cell_of q history) boxes

-- two lists of cells of these boxes, cell by cell
unfoldable pub merge_in : List Box → List Cell → List Cell → List Cell
merge_in boxes cs ds = merged_cells (kinds_in boxes) cs ds

-- the shared synopsis of a history: the cells of the different boxes
abbrev pub shared_synopsis : QueryValue → List PartPlan → List Arrival → List Cell
shared_synopsis q plan history = synopsis_in q (boxes q plan) history

-- how many cells the different boxes have
abbrev pub shared_cells : QueryValue → List PartPlan → ℕ
shared_cells q plan = sizes_in (boxes q plan)

-- the numbers of a query with shared cells
abbrev pub shared_numbers : QueryValue → List PartPlan → Numbers
shared_numbers q plan = record (numbers_of q plan) { cells = shared_cells q plan }

-- the plan of a query with shared cells: each box begins where the first that is the same begins
pub record IsSharedPlan (q : QueryValue) (plan : List PartPlan) : Type 0 where
  pub parts : AreParts q (map (λ part. part.signs.items) plan)
  pub plans : All (IsPartPlan q) plan
  pub bases : (part : PartPlan) → Contains plan part → (place : ℕ) → place < length part.streams.items
      → (stream_at part place).base ≡ start_in q (boxes q plan) (box_at part place)

-- the boxes whose cells are kept: all, or where cells are shared the different ones
abbrev pub kept_boxes : Bool → QueryValue → List PartPlan → List Box
kept_boxes false q plan = boxes_in plan
kept_boxes true q plan = boxes q plan

-- the plan of a query that is no filter, without shared cells or with them
abbrev pub IsPlanFor : Bool → QueryValue → List PartPlan → Type 0
IsPlanFor false q plan = IsPlan q plan
IsPlanFor true q plan = IsSharedPlan q plan

-- and its numbers
abbrev pub numbers_for : Bool → QueryValue → List PartPlan → Numbers
numbers_for false q plan = numbers_of q plan
numbers_for true q plan = shared_numbers q plan

-- the plan of a query with its numbers, without shared cells or with them
abbrev pub IsPlanOf : Bool → QueryValue → Plan → Type 0
IsPlanOf shared q plan.Filter = IsTrue (is_filter q)
IsPlanOf shared q (plan.Parts parts numbers) = IsFalse (is_filter q) × IsPlanFor shared q parts × (numbers ≡ numbers_for shared q parts)
