use Rattle.std.proofs.Common.{◌≤◌, filter, length, take, min}
use Rattle.std.specs.List.{AllZip}
use Rattle.sem_query.specs.Query.{is_soft}
use Rattle.sem_query.specs.Parts.{pairs}
use Rattle.plan_parts.specs.Soft.{IsFails}
use Rattle.plan_parts.proofs.soft.failing_signs.Given as goal

abbrev pub invariant-loop-i : goal.invariant-loop-i
invariant-loop-i l = record {
  told : AllZip (IsFails l.q) (take l.i (pairs l.q)) l.list.items;
  within : l.i ≤ min (length (filter (λ t. is_soft t.op) l.q.atoms)) (length (pairs l.q));
}
