-- What contracts see of the distances of the part that was read last.
use Rattle.std.specs.Prelude.{ℕ, List}
use Rattle.sem_query.specs.declared.part.Sign.{Sign}
use Rattle.plan_closure.specs.declared.distances.Distances.{Distances}

-- the signs of the part, how many the first ones are, the distances of these, and those of all
pub record PartDistancesValue : Type 0 where
  pub signs : List Sign
  pub count : ℕ
  pub first : Distances
  pub all : Distances
