-- Plans whose boxes are still to be set.
use Rattle.std.specs.Prelude.{◌≡◌, ℕ, ◌+◌, ◌<◌, ◌^◌, List, map, length}
use Rattle.std.specs.List.{slice_index_or, sum_by}
use Rattle.sem_query.specs.declared.part.Sign.{Sign}
use Rattle.sem_query.specs.declared.plan.StreamPlan.{StreamPlan}
use Rattle.sem_query.specs.declared.plan.PartPlan.{PartPlan}
use Rattle.sem_query.specs.Query.{QueryValue}
use Rattle.sem_query.specs.Plan.{AreDims, IsKind, IsPartPlan}
use Rattle.plan_layout.specs.Capped.{capped}
use Rattle.plan_layout.specs.Boxed.{size_for, boxed_streams, boxed_part}

-- the dims and the kind of a stream
pub record IsStreamDraft (q : QueryValue) (s : List Sign) (place : ℕ) (plan : StreamPlan) : Type 0 where
  pub dims : AreDims q s place plan.dims.items
  pub kind : IsKind q s place plan.kind

-- the dims and the kinds of the first streams of FROM
pub record AreStreamDrafts (q : QueryValue) (s : List Sign) (count : ℕ) (streams : List StreamPlan) : Type 0 where
  pub size : length streams ≡ count
  pub each : (place : ℕ) (d : StreamPlan) → place < count → IsStreamDraft q s place (slice_index_or streams place d)

-- the first streams of FROM, with the number of cells up to them; where that is small, their boxes are set from a number on
pub record AreSet (q : QueryValue) (s : List Sign) (first count next : ℕ) (streams : List StreamPlan) : Type 0 where
  pub drafts : AreStreamDrafts q s count streams
  pub cells : next ≡ capped (first + sum_by (size_for q) streams)
  pub boxes : next < 2 ^ 32 → boxed_streams q first streams ≡ streams

-- the plan of a part, once its boxes are set, wherever they begin
pub record IsDraft (q : QueryValue) (part : PartPlan) : Type 0 where
  pub plan : (next : ℕ) → IsPartPlan q (boxed_part q next part)

-- the sign vectors of the parts
abbrev pub signs_of : List PartPlan → List (List Sign)
signs_of parts = map (λ part. part.signs.items) parts
