use Rattle.std.proofs.Common.{ℕ, List, All, take}
use Rattle.plan_constraints.specs.declared.constraint.Constraint.{Constraint}
use Rattle.plan_constraints.specs.Solutions.{Implies}
use Rattle.plan_closure.specs.Shortest.{AreDistancesOf}
use Rattle.plan_closure.proofs.distances.Distances.implies_each.Given as goal

abbrev pub invariant-loop-c : goal.invariant-loop-c
invariant-loop-c l = (n : ℕ) (ks : List Constraint) → AreDistancesOf l.self n ks → All (Implies ks) (take l.c-index l.cs)
