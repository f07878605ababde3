use Rattle.std.proofs.Common.{◌≡◌, ◌<◌, ◌++◌, drop, length}
use Rattle.sem_query.specs.Boxes.{box_size, values_at, AreNumbered}
use Rattle.sem_query.proofs.boxes.values_at.Given as goal

abbrev pub invariant-values : goal.invariant-values
invariant-values l = record {
  values : l.values.items ++ values_at (drop l.dim-index l.dims) l.rest ≡ values_at l.dims l.place;
  size : l.size ≡ box_size (drop l.dim-index l.dims);
  rest : l.rest < l.size;
  sound : AreNumbered (drop l.dim-index l.dims);
  room : length l.values.items ≡ l.dim-index;
}
