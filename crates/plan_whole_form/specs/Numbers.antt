-- The numbers of a part read the dims of its streams and its links `=` alone.
use Rattle.std.specs.Prelude.{ℕ, ◌-◌, ◌^◌, min, nat_eq, if◌then◌else◌, List, [], map, length}
use Rattle.std.specs.List.{sum_by}
use Rattle.sem_query.specs.declared.plan.Dim.{Dim}
use Rattle.sem_query.specs.declared.plan.Kind.{Kind}
use Rattle.sem_query.specs.declared.plan.Link.{Link}
use Rattle.sem_query.specs.declared.plan.StreamPlan.{StreamPlan}
use Rattle.sem_query.specs.declared.plan.PartPlan.{PartPlan}
use Rattle.sem_query.specs.Boxes.{box_size}
use Rattle.plan_whole_form.specs.declared.part.WholeStream.{WholeStream}

-- the number, or the greatest of 64 bits where it is above that
abbrev pub capped : ℕ → ℕ
capped n = min n (2 ^ 64 - 1)

abbrev pub stream_with : List Dim → StreamPlan
stream_with dims = record { dims = record { items = dims }; kind = Kind.Present; base = 0; size = box_size dims }

-- a part that keeps these dims of its streams and has these links `=`
abbrev pub part_with : List (List Dim) → List Link → PartPlan
part_with dims equal = record {
  signs = record { items = [] };
  local = [];
  streams = record { items = map stream_with dims };
  equal = record { items = equal };
  less = record { items = [] };
  soft = record { items = [] };
}

-- how many cells the streams with these dims have: a query over one stream keeps none
abbrev pub cells_with : List (List Dim) → ℕ
cells_with dims = if nat_eq (length dims) 1 then 0 else sum_by box_size dims

-- the dims of some streams
abbrev pub dims_in : List WholeStream → List (List Dim)
dims_in streams = map (λ s. s.dims.items) streams

-- the dims of the streams of a part
abbrev pub dims_of : PartPlan → List (List Dim)
dims_of part = map (λ s. s.dims.items) part.streams.items
