-- How many cells a row reads at most.
use Rattle.std.specs.Prelude.{ℕ, ◌+◌, ◌*◌, ◌/◌, List, length, nat_eq, if◌then◌else◌}
use Rattle.std.specs.List.{sum_by}
use Rattle.sem_query.specs.declared.plan.PartPlan.{PartPlan}
use Rattle.sem_query.specs.Numbers.{share}

-- in a part, beside its own cell: over two streams no more than one and a half times its share
abbrev pub most_reads : PartPlan → ℕ
most_reads part = if nat_eq (length part.streams.items) 2 then share part + share part / 2 else 3 * share part

-- in all parts
abbrev pub row_reads : List PartPlan → ℕ
row_reads parts = sum_by most_reads parts
