-- The plans of streams, their boxes set one after another.
use Rattle.std.specs.Prelude.{◌≡◌, ℕ, ◌+◌, ◌<◌, ◌^◌, List, length, nat_eq}
use Rattle.std.specs.List.{sum_by}
use Rattle.sem_query.specs.declared.plan.StreamPlan.{StreamPlan}
use Rattle.sem_query.specs.Query.{QueryValue}
use Rattle.plan_layout.specs.Capped.{capped}
use Rattle.plan_layout.specs.Boxed.{size_for, boxed_streams}
use Rattle.plan_whole_form.specs.declared.part.WholeStream.{WholeStream}
use Rattle.plan_forms.specs.Placed.{ArePlaced}

-- the plans keep what the streams do, with the number of cells up to them; where that is small, their boxes are set from a number on
pub record AreSet (q : QueryValue) (first : ℕ) (streams : List WholeStream) (next : ℕ) (plans : List StreamPlan) : Type 0 where
  pub placed : (base : ℕ) → ArePlaced (nat_eq (length q.from) 1) base streams (boxed_streams q base plans)
  pub cells : next ≡ capped (first + sum_by (size_for q) plans)
  pub boxes : next < 2 ^ 32 → boxed_streams q first plans ≡ plans
