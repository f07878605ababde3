use Rattle.std.proofs.Common.{◌≡◌, length}
use Rattle.plan_closure.specs.Shortest.{Lowers}
use Rattle.plan_closure.proofs.distance.lead.Given as goal

abbrev pub invariant-loop-k : goal.invariant-loop-k
invariant-loop-k l = (length l.table ≡ 169) × Lowers l.fn.table l.row l.right l.columns l.k l.head l.table
