-- The plan of the split form: of each part, the plan of the whole form of the query with the signs of the part as comparisons.
use Rattle.std.specs.Prelude.{Bool, List}
use Rattle.std.specs.List.{AllZip}
use Rattle.sem_query.specs.declared.part.Sign.{Sign}
use Rattle.sem_query.specs.declared.plan.PartPlan.{PartPlan}
use Rattle.sem_query.specs.Query.{QueryValue}
use Rattle.sem_query.specs.Serving.{AreBased}
use Rattle.plan_split_pairs.specs.Pairs.{split_pairs}
use Rattle.plan_split_pairs.specs.SplitParts.{AreSplitParts}
use Rattle.sem_whole.specs.Signed.{with_signs}
use Rattle.sem_forms.specs.Part.{IsWholePartPlan}

-- the query of a part: what its signs say stands before the comparisons of the query
abbrev pub part_query : QueryValue → List Sign → QueryValue
part_query q ss = with_signs (split_pairs q) ss q

-- the plan of each part, in order, wherever its boxes begin
pub record IsSplitPlan (q : QueryValue) (plan : List PartPlan) : Type 0 where
  pub parts : List (List Sign)
  pub are : AreSplitParts q parts
  pub plans : AllZip (λ ss part. IsWholePartPlan (part_query q ss) part) parts plan

-- with its boxes, without shared cells or with them
abbrev pub IsSplitFor : Bool → QueryValue → List PartPlan → Type 0
IsSplitFor shared q plan = IsSplitPlan q plan × AreBased shared q plan
