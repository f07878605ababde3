-- The plan of the whole form: one part, which keeps of each class its own range.
use Rattle.std.specs.Prelude.{◌≡◌, ℕ, ◌<◌, ◌↔◌, pos, nat_eq, if◌then◌else◌, IsTrue, Bool, not, ◌&&◌, List, [], ◌∷◌, map, filter, length, Contains, AllPairs}
use Rattle.std.specs.declared.option.Option.TheVariants.{Some}
use Rattle.sem_query.specs.declared.atom.Atom.{Atom}
use Rattle.sem_query.specs.declared.atom.Attr.{Attr}
use Rattle.sem_query.specs.declared.atom.Element.TheVariants as element
use Rattle.sem_query.specs.declared.atom.Op.{Op}
use Rattle.sem_query.specs.declared.plan.Dim.{Dim}
use Rattle.sem_query.specs.declared.plan.Link.{Link}
use Rattle.sem_query.specs.declared.plan.LocalCondition.{LocalCondition}
use Rattle.sem_query.specs.declared.plan.SoftLink.{SoftLink}
use Rattle.sem_query.specs.declared.plan.StreamPlan.{StreamPlan}
use Rattle.sem_query.specs.declared.plan.PartPlan.{PartPlan}
use Rattle.sem_query.specs.Query.{QueryValue}
use Rattle.sem_query.specs.Members.{Has}
use Rattle.sem_query.specs.Admission.{alone, keeps_local}
use Rattle.sem_query.specs.Boxes.{box_size}
use Rattle.sem_query.specs.Plan.{stream_at, dims_at, link, link_lt}
use Rattle.sem_whole.specs.System.{system, Bound}
use Rattle.sem_whole.specs.Links.{comparison, op_index}
use Rattle.sem_whole.specs.Ranges.{range}
use Rattle.sem_whole.specs.Kept.{IsRange}
use Rattle.sem_whole.specs.Whole.{KeptDim, StreamKeep, Form}
use Rattle.sem_whole.specs.Plan.{IsWholePlan}
use Rattle.plan_whole_form.specs.Conditions.{AreConditions}
use Rattle.sem_forms.specs.Order.{local_lt}

-- a link of a plan, read as a comparison with this operator
abbrev pub read_as : Op → Link → Atom
read_as o l = comparison (element.Attr l.left) o (element.Attr l.right)

abbrev pub soft_as : SoftLink → Atom
soft_as l = comparison (element.Attr l.left) l.op (element.Attr l.right)

abbrev pub has_op : Op → Atom → Bool
has_op o t = nat_eq (op_index t.op) (op_index o)

-- neither `=` nor `<`
abbrev pub is_soft : Atom → Bool
is_soft t = not (has_op Op.Eq t) && not (has_op Op.Lt t)

-- the dims are of these classes, each with its own range
abbrev pub AreOwnDims : QueryValue → List KeptDim → List Dim → Type 0
AreOwnDims q [] [] = Unit {0}
AreOwnDims q [] (e ∷ dims) = ⊥
AreOwnDims q (d ∷ kept) [] = ⊥
AreOwnDims q (d ∷ kept) (e ∷ dims) = (e.attr ≡ d.attr) × IsRange (system q) e.attr (range (Some e.lo) (Some e.hi)) × AreOwnDims q kept dims

-- the stream keeps what the form does of it, but of each class its own range; a query over one stream keeps no cells
pub record IsOwnStream (q : QueryValue) (keep : StreamKeep) (plan : StreamPlan) : Type 0 where
  pub dims : AreOwnDims q keep.dims plan.dims.items
  pub kind : plan.kind ≡ keep.kind
  pub size : plan.size ≡ (if nat_eq (length q.from) 1 then 0 else box_size plan.dims.items)

-- a form whose rows meet the conditions
abbrev pub form_with : List Atom → (ℕ → StreamKeep) → List LocalCondition → Form
form_with links keeps local = record { links = links; keeps = keeps; admits = λ place v. keeps_local place (alone v) local }

-- a dim of a stream and one of a later stream that are equal in each solution, by their names
pub record AreEqualDims (q : QueryValue) (dims : ℕ → List Dim) (a b : Attr) : Type 0 where
  pub before : a.stream < b.stream
  pub left : (d : Dim) × Has (dims a.stream) d × (d.attr ≡ a)
  pub right : (d : Dim) × Has (dims b.stream) d × (d.attr ≡ b)
  pub below : Bound (system q) (element.Attr a) (element.Attr b) (pos 0)
  pub above : Bound (system q) (element.Attr b) (element.Attr a) (pos 0)

-- the part is the plan of the whole form: no signs, what the rows of each stream are asked, in order and each once, what is kept of each stream; an
-- equality for each two dims that are equal, ascending, which says what the links `=` of the form do; and its other links, in their order
pub record IsWholePartPlan (q : QueryValue) (part : PartPlan) : Type 0 where
  pub links : List Atom
  pub keeps : ℕ → StreamKeep
  pub plan : IsWholePlan q (form_with links keeps part.local)
  pub signs : part.signs.items ≡ []
  pub local : AreConditions q part.local
  pub local_ascends : AllPairs (λ t u. IsTrue (local_lt t u)) part.local
  pub count : length part.streams.items ≡ length q.from
  pub streams : (place : ℕ) → place < length q.from → IsOwnStream q (keeps place) (stream_at part place)
  pub equal : (a b : Attr) → Contains part.equal.items (link a b) ↔ AreEqualDims q (dims_at part) a b
  pub equal_ascends : AllPairs (λ l m. IsTrue (link_lt l m)) part.equal.items
  pub less : map (read_as Op.Lt) part.less.items ≡ filter (has_op Op.Lt) links
  pub soft : map soft_as part.soft.items ≡ filter is_soft links
