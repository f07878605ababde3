-- What contracts see of what a pair adds.
use Rattle.std.specs.Prelude.{List}
use Rattle.plan_constraints.specs.declared.constraint.Constraint.{Constraint}

-- the constraints of each sign
pub record ChoiceValue : Type 0 where
  pub less : List Constraint
  pub equal : List Constraint
  pub greater : List Constraint
