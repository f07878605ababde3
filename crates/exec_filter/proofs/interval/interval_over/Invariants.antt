use Rattle.std.proofs.Common.{◌≡◌, ◌<◌, ℕ, ℤ, true, slice_index_or}
use Rattle.std.specs.List.{list_all}
use Rattle.sem_query.specs.declared.plan.PartPlan.{PartPlan}
use Rattle.sem_query.specs.Plan.{dims_at}
use Rattle.sem_query.specs.Admission.{in_range}
use Rattle.exec_filter.specs.Prefilter.{Encloses}
use Rattle.exec_filter.proofs.interval.interval_over.Given as goal

abbrev pub invariant-parts : goal.invariant-parts
invariant-parts l =
    (n : ℕ) (d : PartPlan) → n < l.i → (v : ℕ → ℤ) → list_all (in_range v) (dims_at (slice_index_or l.parts n d) l.place) ≡ true → Encloses l.all (v l.column)
