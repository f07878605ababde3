-- The plans of drafts are those of all parts, and why there are none is why there are no drafts.
use Rattle.std.proofs.Common.{◌≡◌, List, Ok, Err, sym, subst}
use Rattle.sem_query.specs.declared.part.Part.{Part}
use Rattle.sem_query.specs.declared.part.Sign.{Sign}
use Rattle.sem_query.specs.declared.plan.PartPlan.{PartPlan}
use Rattle.sem_query.specs.Query.{QueryValue}
use Rattle.sem_query.specs.Parts.{AreParts, sign_lists}
use Rattle.plan_layout.specs.declared.draft.PlanDraft.{PlanDraft}
use Rattle.plan_layout.specs.declared.error.LayoutError.{LayoutError}
use Rattle.plan_layout.specs.declared.error.LayoutError.TheVariants as why
use Rattle.plan_layout.specs.Sums.{IsDrafted}
use Rattle.plan_layout.specs.Unset.{AreUnset, IsPartFault}

pub unset_plans : (q : QueryValue) (ps : List Part) (draft : PlanDraft) (plans : List PartPlan) → AreParts q (sign_lists ps) → IsDrafted q (sign_lists ps) (Ok draft) → plans ≡ draft.parts.items → AreUnset q plans
unset_plans q ps draft plans are h e = subst (AreUnset q) (sym e) record { parts = subst (λ (z : List (List Sign)). AreParts q z) (sym h.1) are; drafts = h.0.drafts }

pub part_fault : (q : QueryValue) (parts : List (List Sign)) (e : LayoutError) → IsDrafted q parts (Err e) → IsPartFault q e
part_fault q parts (why.Violation part condition attr) h = h
part_fault q parts (why.Limit which value) h = h
part_fault q parts why.Memory h = tt
