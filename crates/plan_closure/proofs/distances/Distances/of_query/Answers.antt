use Rattle.plan_closure.proofs.Each.{known_of}
use Rattle.plan_closure.proofs.distances.Distances.of_query.Goals as goal

pub add_all-requires-clause-known : goal.add_all-requires-clause-known
add_all-requires-clause-known c = known_of _ _ _ c.new-distances.ensures

pub returns-clause-distances : goal.returns-clause-distances
returns-clause-distances c = rw (c.attrs.ensures.value, c.as_slice.ensures.value, c.of_query.ensures.value) at (c.add_all.ensures _ _ c.new-distances.ensures)
