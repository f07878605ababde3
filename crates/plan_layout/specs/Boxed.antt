-- Boxes set one after the other.
use Rattle.std.specs.Prelude.{ℕ, ◌+◌, List, [], ◌∷◌, length, nat_eq, if◌then◌else◌}
use Rattle.std.specs.List.{sum_by}
use Rattle.sem_query.specs.declared.plan.Dim.{Dim}
use Rattle.sem_query.specs.declared.plan.StreamPlan.{StreamPlan}
use Rattle.sem_query.specs.declared.plan.PartPlan.{PartPlan}
use Rattle.sem_query.specs.Query.{QueryValue}
use Rattle.sem_query.specs.Boxes.{box_size}

-- the number of cells of a stream with these dims: a query over one stream keeps none
abbrev pub cells_over : QueryValue → List Dim → ℕ
cells_over q dims = if nat_eq (length q.from) 1 then 0 else box_size dims

-- the number of cells of a stream
abbrev pub size_for : QueryValue → StreamPlan → ℕ
size_for q s = cells_over q s.dims.items

-- the streams, their boxes set from a number on
abbrev pub boxed_streams : QueryValue → ℕ → List StreamPlan → List StreamPlan
boxed_streams q next [] = []
boxed_streams q next (s ∷ streams) = record s { base = next; size = size_for q s } ∷ boxed_streams q (next + size_for q s) streams

-- the part, its boxes set from a number on
abbrev pub boxed_part : QueryValue → ℕ → PartPlan → PartPlan
boxed_part q next part = record part { streams = record { items = boxed_streams q next part.streams.items } }

-- the number of cells of a part
abbrev pub cells_for : QueryValue → PartPlan → ℕ
cells_for q part = sum_by (size_for q) part.streams.items

-- the parts, their boxes set from a number on
abbrev pub boxed : QueryValue → ℕ → List PartPlan → List PartPlan
boxed q next [] = []
boxed q next (part ∷ parts) = boxed_part q next part ∷ boxed q (next + cells_for q part) parts
