-- When a query is planned by its whole form.
use Rattle.std.specs.Prelude.{◌≡◌, ◌<◌, ◌≤◌, false, Bool, IsTrue, List, None, [], ◌∷◌}
use Rattle.std.specs.List.{list_any}
use Rattle.sem_query.specs.declared.plan.Numbers.{Numbers}
use Rattle.sem_query.specs.declared.plan.PartPlan.{PartPlan}
use Rattle.sem_query.specs.Query.{QueryValue}
use Rattle.sem_query.specs.Numbers.{numbers_of}
use Rattle.sem_query.specs.Plan.{Follow}
use Rattle.sem_query.specs.Verdict.{first_above}
use Rattle.plan_split_pairs.specs.Pairs.{is_unlike}
use Rattle.sem_forms.specs.Part.{IsWholePartPlan}
use Rattle.sem_forms.specs.Parts.{HasTooManyParts, form_numbers}
use Rattle.sem_forms.specs.Split.{IsSplitFor}

-- the plan of the whole form is within the limits: no number is above its own
pub record IsWithinAsOne (q : QueryValue) (part : PartPlan) : Type 0 where
  pub plan : IsWholePartPlan q part
  pub few : first_above (numbers_of q (part ∷ [])) ≡ None

-- some link between streams is `<>`
abbrev pub has_unlike_link : PartPlan → Bool
has_unlike_link part = list_any (λ l. is_unlike l.op) part.soft.items

-- rows are cheaper by parts: these are at most 16, since each costs a row something beside its work, and take less work
pub record AreCheaper (by_parts as_one : Numbers) : Type 0 where
  pub few : by_parts.parts ≤ 16
  pub less : by_parts.work < as_one.work

-- streams are linked by `<>`, and rows are cheaper by the parts of the query, which are within the limits too
pub record HasCheaperParts (q : QueryValue) (part : PartPlan) : Type 0 where
  pub linked : IsTrue (has_unlike_link part)
  pub few : ¬ HasTooManyParts q
  pub plan : List PartPlan
  pub is : IsSplitFor false q plan
  pub within : first_above (form_numbers false q plan) ≡ None
  pub cheaper : AreCheaper (form_numbers false q plan) (numbers_of q (part ∷ []))

-- the plan of the whole form, its boxes one after another from cell 0 on, is within the limits, and rows are not cheaper by the parts
pub record FitsWhole (q : QueryValue) (part : PartPlan) : Type 0 where
  pub plan : IsWholePartPlan q part
  pub follow : Follow 0 (part ∷ [])
  pub few : first_above (numbers_of q (part ∷ [])) ≡ None
  pub dear : ¬ HasCheaperParts q part
