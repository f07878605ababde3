-- The plans of the parts of the split form, whose boxes are still to be set, and what they come to.
use Rattle.std.specs.Prelude.{◌≡◌, ℕ, ◌<◌, ◌≤◌, ◌^◌, List, [], ◌∷◌, ◌++◌, length, min, Result, Ok, Err}
use Rattle.std.specs.List.{sum_by, AllZip}
use Rattle.std.specs.declared.option.Option.TheVariants.{None, Some}
use Rattle.sem_query.specs.declared.first_break.Break.{Break}
use Rattle.sem_query.specs.declared.part.Sign.{Sign}
use Rattle.sem_query.specs.declared.plan.PartPlan.{PartPlan}
use Rattle.sem_query.specs.Query.{QueryValue}
use Rattle.sem_query.specs.Numbers.{answer_bound, work}
use Rattle.plan_split_pairs.specs.SplitParts.{AreSplitParts}
use Rattle.plan_layout.specs.declared.draft.PlanDraft.{PlanDraft}
use Rattle.plan_layout.specs.declared.error.LayoutError.{LayoutError}
use Rattle.plan_layout.specs.declared.error.LayoutError.TheVariants as why
use Rattle.plan_layout.specs.Capped.{capped}
use Rattle.plan_layout.specs.Boxed.{boxed_part, cells_for, boxed}
use Rattle.sem_forms.specs.Answers.{hull_bound}
use Rattle.sem_forms.specs.Part.{IsWholePartPlan}
use Rattle.sem_forms.specs.Split.{part_query}
use Rattle.sem_forms.specs.SplitBreaks.{IsPartBreak, IsSplitViolation}
use Rattle.plan_forms.specs.declared.making.Made.{Made}
use Rattle.plan_forms.specs.Made.{IsMade}

-- what is made of the form of a part, or what it breaks first
abbrev pub IsPartOr : QueryValue → Result Made Break → Type 0
IsPartOr r (Ok made) = IsMade r made
IsPartOr r (Err b) = IsPartBreak r (Some b)

-- the plan of the part with these signs, once its boxes are set, wherever they begin
pub record IsPartDraft (q : QueryValue) (ss : List Sign) (part : PartPlan) : Type 0 where
  pub plan : (next : ℕ) → IsWholePartPlan (part_query q ss) (boxed_part q next part)

-- the plans of all parts of the split form, in order, whose boxes are still to be set
pub record AreSplitDrafts (q : QueryValue) (plans : List PartPlan) : Type 0 where
  pub parts : List (List Sign)
  pub are : AreSplitParts q parts
  pub drafts : AllZip (IsPartDraft q) parts plans

-- how many answers the plans of several parts have, each counted once
abbrev pub counted_once : QueryValue → List PartPlan → ℕ
counted_once q plan = min (answer_bound q plan) (hull_bound q plan)

-- the numbers are those of the plans, the answers counted in one way; where the cells are few enough, the boxes are set from number 0 on
pub record AreSummed (q : QueryValue) (answers_of : List PartPlan → ℕ) (draft : PlanDraft) : Type 0 where
  pub cells : draft.cells ≡ capped (sum_by (cells_for q) draft.parts.items)
  pub boxes : draft.cells < 2 ^ 32 → boxed q 0 draft.parts.items ≡ draft.parts.items
  pub answers : draft.answers ≡ capped (answers_of draft.parts.items)
  pub work : draft.work ≡ capped (work draft.parts.items)

-- the plan of the part with these signs is added
pub record IsAdded (q : QueryValue) (ss : List Sign) (old new : PlanDraft) : Type 0 where
  pub part : PartPlan
  pub joined : new.parts.items ≡ old.parts.items ++ part ∷ []
  pub draft : IsPartDraft q ss part

-- the plans of all parts of the split form, with the numbers that they come to
pub record AreDrafted (q : QueryValue) (draft : PlanDraft) : Type 0 where
  pub drafts : AreSplitDrafts q draft.parts.items
  pub numbers : AreSummed q (counted_once q) draft
  pub few : length draft.parts.items ≤ 4096
  pub meets : IsSplitViolation q None

-- these, where no part breaks anything; or the first part that does, and what it breaks first
abbrev pub IsSplitDrafted : QueryValue → Result PlanDraft LayoutError → Type 0
IsSplitDrafted q (Ok draft) = AreDrafted q draft
IsSplitDrafted q (Err (why.Violation part condition attr)) = IsSplitViolation q (Some record { part = part; condition = condition; attr = attr })
IsSplitDrafted q (Err (why.Limit which value)) = ⊥
IsSplitDrafted q (Err why.Memory) = Unit {0}
