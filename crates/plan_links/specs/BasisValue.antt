-- What contracts see of what the parts of a query share.
use Rattle.std.specs.Prelude.{List}
use Rattle.sem_query.specs.declared.plan.Link.{Link}
use Rattle.plan_closure.specs.declared.distances.Distances.{Distances}
use Rattle.plan_closure.specs.ChoiceValue.{ChoiceValue}

-- the distances of the query's comparisons and domains, what each pair adds by each sign, and the links of each attribute with each of another stream
pub record BasisValue : Type 0 where
  pub distances : Distances
  pub choices : List ChoiceValue
  pub links : List Link
