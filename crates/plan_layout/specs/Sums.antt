-- The numbers of a part, and of the parts so far, as 64 bits keep them.
use Rattle.std.specs.Prelude.{◌≡◌, ℕ, ◌+◌, ◌<◌, ◌^◌, ℤ, List, map, All, Result, Ok, Err, None, Some}
use Rattle.std.specs.List.{sum_by}
use Rattle.sem_query.specs.declared.atom.Attr.{Attr}
use Rattle.sem_query.specs.declared.part.Sign.{Sign}
use Rattle.sem_query.specs.declared.plan.Dim.{Dim}
use Rattle.sem_query.specs.Query.{QueryValue}
use Rattle.sem_query.specs.Order.{IsLeast, IsGreatest}
use Rattle.sem_query.specs.Boxes.{range_size, box_size}
use Rattle.sem_query.specs.Numbers.{answer_bound, work}
use Rattle.sem_query.specs.Violation.{IsViolation}
use Rattle.sem_query.specs.declared.first_break.Break.{Break}
use Rattle.plan_layout.specs.declared.error.LayoutError.{LayoutError}
use Rattle.plan_layout.specs.declared.error.LayoutError.TheVariants as why
use Rattle.plan_layout.specs.declared.draft.PlanDraft.{PlanDraft}
use Rattle.plan_layout.specs.Capped.{capped}
use Rattle.plan_layout.specs.Boxed.{cells_for, boxed}
use Rattle.plan_layout.specs.Drafts.{IsDraft, signs_of}

-- how many values a column has in a part, if it has a least and a greatest
pub record IsSizeOf (q : QueryValue) (s : List Sign) (a : Attr) (size : ℕ) : Type 0 where
  pub of : (lo hi : ℤ) → IsLeast q s a lo → IsGreatest q s a hi → size ≡ capped (range_size lo hi)

-- the least and the greatest value of a column in a part
abbrev pub IsRangeOf : QueryValue → List Sign → (Attr → Dim) → Attr → Type 0
IsRangeOf q s range a = IsLeast q s a (range a).lo × IsGreatest q s a (range a).hi

-- how many tuples lie in the ranges of the columns
pub record AreSizesOf (q : QueryValue) (s : List Sign) (columns : List Attr) (size : ℕ) : Type 0 where
  pub of : (range : Attr → Dim) → All (IsRangeOf q s range) columns → size ≡ capped (box_size (map range columns))

-- drafts of plans, with the numbers that they come to; where the cells are few enough, the boxes are set from number 0 on
pub record AreDrafted (q : QueryValue) (draft : PlanDraft) : Type 0 where
  pub drafts : All (IsDraft q) draft.parts.items
  pub cells : draft.cells ≡ capped (sum_by (cells_for q) draft.parts.items)
  pub boxes : draft.cells < 2 ^ 32 → boxed q 0 draft.parts.items ≡ draft.parts.items
  pub answers : draft.answers ≡ capped (answer_bound q draft.parts.items)
  pub work : draft.work ≡ capped (work draft.parts.items)

-- the violation that the part at a place shows
abbrev pub violation_at : ℕ → Break → LayoutError
violation_at i found = why.Violation (i + 1) found.condition found.attr

-- drafts of plans of all parts, of which none breaks a condition; or the first that does
abbrev pub IsDrafted : QueryValue → List (List Sign) → Result PlanDraft LayoutError → Type 0
IsDrafted q parts (Ok draft) = AreDrafted q draft × (signs_of draft.parts.items ≡ parts) × IsViolation q None
IsDrafted q parts (Err (why.Violation part condition attr)) = IsViolation q (Some record { part = part; condition = condition; attr = attr })
IsDrafted q parts (Err (why.Limit which value)) = ⊥
IsDrafted q parts (Err why.Memory) = Unit {0}
