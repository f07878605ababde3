use Rattle.std.proofs.Common.{◌≡◌, ◌∙◌, sym, ap, subst, arith, true, inl, inr, get_or}
use Rattle.std.specs.List.{list_all}
use Rattle.std.proofs.lemmas.Bool.{cases_lt}
use Rattle.sem_query.specs.declared.plan.PartPlan.{PartPlan}
use Rattle.sem_query.specs.Plan.{dims_at}
use Rattle.sem_query.specs.Admission.{in_range}
use Rattle.exec_filter.proofs.interval.interval_over.Goals as goal

pub parts-preserved : goal.parts-preserved
parts-preserved c = λ n d l v h. elim (cases_lt n c.parts.i) [
  | inl k ↦ c.widened-all.ensures.first (v c.args.column) (c.parts.invariant n d k v h)
  | inr k ↦
      let at : get_or c.args.parts.now n d ≡ c.get-in-parts.result.now = ap (λ m. get_or c.args.parts.now m d) (omega (arith, k, l)) ∙ sym (c.get-in-parts.ensures d) in
      c.widened-all.ensures.second (v c.args.column) (c.in_ok-own.ensures v (subst (λ (part : PartPlan). list_all (in_range v) (dims_at part c.args.place) ≡ true) at h))
]
