-- Which part of the split form breaks a condition first, and what it breaks.
use Rattle.std.specs.Prelude.{◌≡◌, ℕ, ◌<◌, ◌-◌, ℤ, List, length, slice_get}
use Rattle.std.specs.declared.option.Option.{Option}
use Rattle.std.specs.declared.option.Option.TheVariants.{None, Some}
use Rattle.sem_query.specs.declared.atom.Atom.{Atom}
use Rattle.sem_query.specs.declared.atom.Attr.{Attr}
use Rattle.sem_query.specs.declared.condition.Condition.TheVariants.{C3}
use Rattle.sem_query.specs.declared.first_break.Break.{Break}
use Rattle.sem_query.specs.declared.part.Sign.{Sign}
use Rattle.sem_query.specs.declared.plan.PartPlan.{PartPlan}
use Rattle.sem_query.specs.FirstBreak.{IsFirst}
use Rattle.sem_query.specs.Members.{Has}
use Rattle.sem_query.specs.Query.{QueryValue}
use Rattle.sem_query.specs.Violation.{Failure}
use Rattle.plan_split_pairs.specs.SplitParts.{AreSplitParts}
use Rattle.sem_whole.specs.System.{system}
use Rattle.sem_whole.specs.Links.{AreLinks}
use Rattle.sem_whole.specs.Ranges.{range}
use Rattle.sem_whole.specs.Kept.{IsRange}
use Rattle.sem_whole.specs.Whole.{KeptDim, Form}
use Rattle.sem_whole.specs.Plan.{IsWholePlan}
use Rattle.sem_whole.specs.Failing.{IsFirstWholeBreak}
use Rattle.sem_forms.specs.Part.{IsWholePartPlan}
use Rattle.sem_forms.specs.Split.{part_query}

-- both ends of the range of a column
abbrev pub IsBetweenEnds : QueryValue → Attr → ℤ → ℤ → Type 0
IsBetweenEnds q a lo hi = IsRange (system q) a (range (Some lo) (Some hi))

-- the range of a column lacks an end
abbrev pub LacksEnd : QueryValue → Attr → Type 0
LacksEnd q a = (lo hi : ℤ) → ¬ IsBetweenEnds q a lo hi

-- a column that names a dim of the form, and whose own range lacks an end
pub record IsOpenDim (r : QueryValue) (f : Form) (a : Attr) : Type 0 where
  pub place : ℕ
  pub stream : place < length r.from
  pub dim : KeptDim
  pub among : Has (f.keeps place).dims dim
  pub is : dim.attr ≡ a
  pub lacks : LacksEnd r a

-- what the whole form of a part breaks: the first condition and the first column that shows it; where no condition is broken, C3 at the first dim
-- whose own range lacks an end; or nothing, and it has a plan
pub data IsPartBreak (r : QueryValue) : Option Break → Type 0 where
  broken : (links : List Atom) → AreLinks r links → (b : Break) → IsFirstWholeBreak r links (Some b) → IsPartBreak r (Some b)
  unbounded : (f : Form) → IsWholePlan r f → IsFirstWholeBreak r f.links None → (a : Attr) → IsFirst (IsOpenDim r f) (Some a) → IsPartBreak r (Some record { condition = C3; attr = a })
  none : (part : PartPlan) → (is : IsWholePartPlan r part) → IsFirstWholeBreak r is.links None → IsPartBreak r None

-- the part of a number in the list, from 0, breaks this first, or nothing
pub record BreaksAt (q : QueryValue) (parts : List (List Sign)) (n : ℕ) (b : Option Break) : Type 0 where
  pub signs : List Sign
  pub at : slice_get parts n ≡ Some signs
  pub breaks : IsPartBreak (part_query q signs) b

-- no part breaks anything; or the part of this number, from 1, breaks this first, and those before it nothing
abbrev pub IsFirstPartFailure : QueryValue → List (List Sign) → Option Failure → Type 0
IsFirstPartFailure q parts None = (n : ℕ) → n < length parts → BreaksAt q parts n None
IsFirstPartFailure q parts (Some f) =
    (0 < f.part) × BreaksAt q parts (f.part - 1) (Some record { condition = f.condition; attr = f.attr })
    × ((n : ℕ) → n < f.part - 1 → BreaksAt q parts n None)

-- the violation of a query by its split form: the first failure among the parts, or none where no part fails
pub record IsSplitViolation (q : QueryValue) (r : Option Failure) : Type 0 where
  pub parts : List (List Sign)
  pub are : AreSplitParts q parts
  pub first : IsFirstPartFailure q parts r
