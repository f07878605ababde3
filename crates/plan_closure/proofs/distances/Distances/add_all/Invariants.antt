use Rattle.std.proofs.Common.{ℕ, List, ◌++◌, take}
use Rattle.plan_constraints.specs.declared.constraint.Constraint.{Constraint}
use Rattle.plan_closure.specs.Shortest.{AreDistancesOf}
use Rattle.plan_closure.proofs.distances.Distances.add_all.Given as goal

abbrev pub invariant-loop-c : goal.invariant-loop-c
invariant-loop-c l = (n : ℕ) (ks : List Constraint) → AreDistancesOf l.fn.self n ks → AreDistancesOf l.self n (ks ++ take l.c-index l.cs)
