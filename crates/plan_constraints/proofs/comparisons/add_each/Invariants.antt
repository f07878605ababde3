use Rattle.std.proofs.Common.{◌≡◌, ◌+◌, ◌≤◌, ◌++◌, length, take}
use Rattle.plan_constraints.proofs.comparisons.add_each.Given as goal

abbrev pub invariant-loop-c : goal.invariant-loop-c
invariant-loop-c l = record {
  few : length l.fn.list.items + length l.cs ≤ 300;
  items : l.list.items ≡ l.fn.list.items ++ take l.c-index l.cs;
}
