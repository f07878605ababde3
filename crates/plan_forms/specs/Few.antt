-- The plans of at most 16 parts of a compact query.
use Rattle.std.specs.Prelude.{◌⊎◌, Result, Ok, Err}
use Rattle.sem_query.specs.Query.{QueryValue}
use Rattle.plan_split_pairs.specs.SplitParts.{HasMoreSplitParts}
use Rattle.plan_layout.specs.declared.draft.PlanDraft.{PlanDraft}
use Rattle.sem_forms.specs.Parts.{HasTooManyParts}
use Rattle.plan_forms.specs.declared.error.PartsRefusal.{PartsRefusal}
use Rattle.plan_forms.specs.declared.error.PartsRefusal.TheVariants as why
use Rattle.plan_forms.specs.Planned.{IsSplitForm}

-- the parts are too many to be planned, or more than 16
abbrev pub HasManyParts : QueryValue → Type 0
HasManyParts q = HasTooManyParts q ⊎ HasMoreSplitParts q 16

-- the plans of the parts, whose numbers are not judged yet, or why there are none: that there are many is enough
abbrev pub IsFewForm : QueryValue → Result PlanDraft PartsRefusal → Type 0
IsFewForm q (Ok draft) = IsSplitForm q (Ok draft)
IsFewForm q (Err why.TooManyParts) = HasManyParts q
IsFewForm q (Err (why.Violation part condition attr)) = IsSplitForm q (Err (why.Violation part condition attr))
IsFewForm q (Err (why.Limit which value)) = IsSplitForm q (Err (why.Limit which value))
IsFewForm q (Err why.Memory) = Unit {0}
