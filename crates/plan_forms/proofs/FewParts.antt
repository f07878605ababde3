-- A compact query with more than 16 parts is cheaper by none.
use Rattle.std.proofs.Common.{inl, inr, arith}
use Rattle.std.proofs.lemmas.Slice.Zip.{AllZip-long}
use Rattle.sem_query.specs.declared.plan.PartPlan.{PartPlan}
use Rattle.sem_query.specs.Query.{QueryValue}
use Rattle.sem_forms.specs.Fitting.{HasCheaperParts}
use Rattle.sem_forms.specs.Part.{IsWholePartPlan}
use Rattle.sem_forms.specs.Split.{part_query}
use Rattle.sem_forms.proofs.SplitOne.{split_parts_are_counted}
use Rattle.plan_forms.specs.Few.{HasManyParts}

-- with many parts rows are not cheaper by them
pub many_dear : (q : QueryValue) (part : PartPlan) → HasManyParts q → ¬ HasCheaperParts q part
many_dear q part (inl m) h = h.few m
many_dear q part (inr m) h =
    let l = (split_parts_are_counted q h.is.0.parts 16 h.is.0.are).0 m in
    let n = AllZip-long (λ ss p. IsWholePartPlan (part_query q ss) p) h.is.0.parts h.plan h.is.0.plans in
    let k = h.cheaper.few in
    omega (arith, l, n, k)
