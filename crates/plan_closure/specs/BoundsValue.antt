-- What contracts see of difference bounds.
use Rattle.std.specs.Prelude.{ℕ, List, ◌<◌, length}
use Rattle.plan_constraints.specs.declared.constraint.Constraint.{Constraint}
use Rattle.plan_closure.specs.ClosureValue.{ClosureValue}
use Rattle.plan_closure.specs.Closure.{IsClosureOf}

-- how many attributes there are, and the constraints that were added, in order
pub record BoundsValue : Type 0 where
  pub attrs : ℕ
  pub constraints : List Constraint

-- the closure is that of the constraints, and they fit their list
pub record AreBounds (k : ClosureValue) (cs : List Constraint) : Type 0 where
  pub closure : IsClosureOf k k.attrs cs
  pub room : length cs < 301
