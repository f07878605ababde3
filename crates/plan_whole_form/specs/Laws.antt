-- What holds of the whole form of each query.
use Rattle.std.specs.Prelude.{◌≡◌, ℕ, ◌<◌, nat_eq, IsFalse, if◌then◌else◌, [], ◌∷◌, length}
use Rattle.sem_query.specs.declared.plan.PartPlan.{PartPlan}
use Rattle.sem_query.specs.Query.{QueryValue, is_filter}
use Rattle.sem_query.specs.Boxes.{box_size}
use Rattle.sem_query.specs.Plan.{stream_at, dims_at}
use Rattle.sem_query.specs.Numbers.{cell_count, work, share}
use Rattle.sem_whole.specs.Failing.{IsWholeViolation}
use Rattle.sem_whole.specs.Signed.{IsWellFormed}
use Rattle.plan_whole_form.specs.declared.whole.Whole.{Whole}
use Rattle.plan_whole_form.specs.Numbers.{part_with, cells_with, dims_of}
use Rattle.plan_whole_form.specs.Part.{IsWhole, failure_in}

-- the boxes of a part have their sizes
pub record IsSized (q : QueryValue) (part : PartPlan) : Type 0 where
  pub count : length part.streams.items ≡ length q.from
  pub size : (place : ℕ) → place < length q.from → (stream_at part place).size ≡ (if nat_eq (length q.from) 1 then 0 else box_size (dims_at part place))

-- so the cells and the work of a plan of one part are those of each other part with the same dims and the same links `=`
abbrev pub NumbersReadDims : Type 0
NumbersReadDims =
    (q : QueryValue) (part : PartPlan) → IsSized q part
    → (cell_count (part ∷ []) ≡ cells_with (dims_of part)) × (work (part ∷ []) ≡ share (part_with (dims_of part) part.equal.items))

-- the whole form of a query that is no filter tells its violation
abbrev pub WholesTellViolations : Type 0
WholesTellViolations = (q : QueryValue) → IsWellFormed q → IsFalse (is_filter q) → (w : Whole) → IsWhole q w → IsWholeViolation q (failure_in w)
