-- What holds of the plan of the whole form, of the split form, and of the plan and the verdict of any query.
use Rattle.std.specs.Prelude.{◌≡◌, ◌↔◌, [], ◌∷◌, List, ℤ, ℕ, ◌<◌, ◌≤◌, Bool, IsFalse, map, length}
use Rattle.std.specs.declared.option.Option.{Option}
use Rattle.std.specs.declared.option.Option.TheVariants.{None}
use Rattle.sem_query.specs.declared.decision.Which.TheVariants as which
use Rattle.sem_query.specs.declared.first_break.Break.{Break}
use Rattle.sem_query.specs.declared.part.Sign.{Sign}
use Rattle.sem_query.specs.declared.plan.Dim.{Dim}
use Rattle.sem_query.specs.declared.plan.PartPlan.{PartPlan}
use Rattle.sem_query.specs.Query.{QueryValue, IsWithinLimits, is_filter}
use Rattle.sem_query.specs.Assignment.{Holds, KeepsDomains}
use Rattle.sem_query.specs.Boxes.{box_size}
use Rattle.sem_query.specs.Meaning.{joined}
use Rattle.sem_query.specs.Parts.{sign_at}
use Rattle.sem_query.specs.Plan.{Follow}
use Rattle.sem_query.specs.Ranges.{different, selected_ranges}
use Rattle.sem_query.specs.Serving.{Serves, Takes, IsServing}
use Rattle.sem_query.specs.Violation.{Failure}
use Rattle.plan_split_pairs.specs.Pairs.{split_pairs}
use Rattle.plan_split_pairs.specs.SplitParts.{IsSplitPart, AreSplitParts, HasMoreSplitParts}
use Rattle.sem_whole.specs.Failing.{Contradicts, IsFirstWholeBreak}
use Rattle.sem_whole.specs.Signed.{IsWellFormed}
use Rattle.sem_whole.specs.Whole.{HasFiniteRanges}
use Rattle.plan_whole_form.specs.Part.{AreRangesOf}
use Rattle.sem_forms.specs.Part.{form_with, IsWholePartPlan}
use Rattle.sem_forms.specs.Split.{part_query, IsSplitPlan, IsSplitFor}
use Rattle.sem_forms.specs.SplitBreaks.{IsPartBreak, IsSplitViolation}
use Rattle.sem_forms.specs.Answers.{HoldsAllTuples}
use Rattle.sem_forms.specs.Parts.{HasTooManyParts, IsPartsFor, form_numbers}
use Rattle.sem_query.specs.declared.plan.Plan.{Plan}
use Rattle.sem_query.specs.Verdict.{Verdict, most}
use Rattle.sem_forms.specs.Forms.{MeetsForm, IsFormPlan, IsFormPlanOf, IsServingForm, IsFormVerdict}

-- it tells the answers
abbrev pub WholePartsServe : Type 0
WholePartsServe = (q : QueryValue) → IsWellFormed q → (part : PartPlan) → IsWholePartPlan q part → IsServing q (part ∷ [])

-- a query has one
abbrev pub HasOneWholePart : Type 0
HasOneWholePart =
    (q : QueryValue) (part other : PartPlan) → IsWholePartPlan q part → IsWholePartPlan q other
    → Follow 0 (part ∷ []) → Follow 0 (other ∷ []) → part ≡ other

-- a query with one breaks no condition of the whole form
abbrev pub WholePartsAreFinite : Type 0
WholePartsAreFinite = (q : QueryValue) (part : PartPlan) (is : IsWholePartPlan q part) → HasFiniteRanges q (form_with is.links is.keeps part.local)

-- so it has no first break
abbrev pub WholePartsBreakNothing : Type 0
WholePartsBreakNothing = (q : QueryValue) → IsWellFormed q → (part : PartPlan) (is : IsWholePartPlan q part) → IsFirstWholeBreak q is.links None

-- the announced answers are counted from the ranges of the different selected columns
abbrev pub WholeAnswersAreCounted : Type 0
WholeAnswersAreCounted =
    (q : QueryValue) → IsWellFormed q → (part : PartPlan) → IsWholePartPlan q part
    → (dims : List Dim) → AreRangesOf q (different q.select) dims → box_size (selected_ranges q part) ≡ box_size dims

-- the query of a part is well formed
abbrev pub PartQueriesAreWellFormed : Type 0
PartQueriesAreWellFormed = (q : QueryValue) → IsWithinLimits q → (ss : List Sign) → IsSplitPart q ss → IsWellFormed (part_query q ss)

-- and its system does not contradict itself
abbrev pub PartsHaveSystems : Type 0
PartsHaveSystems = (q : QueryValue) (ss : List Sign) → IsSplitPart q ss → ¬ Contradicts (part_query q ss)

-- the plan of a part serves the query
abbrev pub PartsServe : Type 0
PartsServe =
    (q : QueryValue) → IsWithinLimits q → (ss : List Sign) → IsSplitPart q ss
    → (part : PartPlan) → IsWholePartPlan (part_query q ss) part → Serves q part

-- of the combinations that keep to the domains it takes exactly those that satisfy the query and have the signs of the part
abbrev pub PartsTake : Type 0
PartsTake =
    (q : QueryValue) → IsWithinLimits q → (ss : List Sign) → IsSplitPart q ss
    → (part : PartPlan) → IsWholePartPlan (part_query q ss) part
    → (rows : List (ℕ → ℤ)) → length rows ≡ length q.from → KeepsDomains q (joined rows)
    → Takes q part rows ↔ (Holds q (joined rows) × (map (sign_at (joined rows)) (split_pairs q) ≡ ss))

-- the plans of all parts tell the answers
abbrev pub SplitPlansServe : Type 0
SplitPlansServe = (q : QueryValue) (plan : List PartPlan) → IsWithinLimits q → IsSplitPlan q plan → IsServing q plan

-- a query has one list of split parts
abbrev pub HasOneListOfSplitParts : Type 0
HasOneListOfSplitParts = (q : QueryValue) (parts others : List (List Sign)) → AreSplitParts q parts → AreSplitParts q others → parts ≡ others

-- it has more than n exactly where the list is longer
abbrev pub SplitPartsAreCounted : Type 0
SplitPartsAreCounted = (q : QueryValue) (parts : List (List Sign)) (n : ℕ) → AreSplitParts q parts → HasMoreSplitParts q n ↔ (n < length parts)

-- it has one plan of them
abbrev pub HasOneSplitPlan : Type 0
HasOneSplitPlan = (shared : Bool) (q : QueryValue) (plan other : List PartPlan) → IsSplitFor shared q plan → IsSplitFor shared q other → plan ≡ other

-- a part breaks one thing first, or nothing
abbrev pub HasOnePartBreak : Type 0
HasOnePartBreak = (r : QueryValue) (b c : Option Break) → IsPartBreak r b → IsPartBreak r c → b ≡ c

-- two violations of the split form of a query are the same: one failure, or none
abbrev pub HasOneSplitViolation : Type 0
HasOneSplitViolation = (q : QueryValue) (r s : Option Failure) → IsSplitViolation q r → IsSplitViolation q s → r ≡ s

-- where each part has a plan none breaks anything
abbrev pub SplitPlansMeet : Type 0
SplitPlansMeet = (q : QueryValue) (plan : List PartPlan) → IsWithinLimits q → IsSplitPlan q plan → IsSplitViolation q None

-- a plan by parts, where there are not too many, has at most 4,096
abbrev pub PartsAreFew : Type 0
PartsAreFew = (shared : Bool) (q : QueryValue) (plan : List PartPlan) → ¬ HasTooManyParts q → IsPartsFor shared q plan → length plan ≤ most which.Parts

-- the announced answers are room for each ascending table of tuples that lie in the ranges of some part
abbrev pub AnnouncedAnswersHold : Type 0
AnnouncedAnswersHold = (shared : Bool) (q : QueryValue) (plan : List PartPlan) → HoldsAllTuples q plan (form_numbers shared q plan).answers

-- the plan of a query that breaks no condition tells the answers, whichever form it has
abbrev pub FormPlansServe : Type 0
FormPlansServe = (shared : Bool) (q : QueryValue) (plan : Plan) → IsWithinLimits q → MeetsForm q → IsFormPlanOf shared q plan → IsServingForm shared q plan

-- a query that breaks no condition has at most one plan
abbrev pub HasOneFormPlan : Type 0
HasOneFormPlan =
    (shared : Bool) (q : QueryValue) (plan other : List PartPlan) → IsFalse (is_filter q) → MeetsForm q → IsFormPlan shared q plan → IsFormPlan shared q other → plan ≡ other

-- there is at most one verdict on a query, with so many free pages
abbrev pub HasOneFormVerdict : Type 0
HasOneFormVerdict =
    (shared : Bool) (q : QueryValue) (free : ℕ) (verdict other : Verdict) → IsFormVerdict shared q free verdict → IsFormVerdict shared q free other → verdict ≡ other
