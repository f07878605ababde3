use Rattle.std.proofs.Common.{◌≡◌, ◌+◌, ◌≤◌, ◌++◌, length, take}
use Rattle.plan_closure.proofs.bounds.Bounds.add_all.Given as goal

abbrev pub invariant-loop-c : goal.invariant-loop-c
invariant-loop-c l = record {
  few : length l.fn.self.constraints + length l.cs ≤ 300;
  attrs : l.self.attrs ≡ l.fn.self.attrs;
  constraints : l.self.constraints ≡ l.fn.self.constraints ++ take l.c-index l.cs;
}
