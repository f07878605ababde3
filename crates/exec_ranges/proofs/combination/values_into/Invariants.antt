use Rattle.std.proofs.Common.{◌≡◌, ◌<◌, ◌++◌, drop, length, map, take}
use Rattle.sem_query.specs.Boxes.{box_size, values_at, AreNumbered}
use Rattle.exec_ranges.proofs.combination.values_into.Given as goal

abbrev pub invariant-values : goal.invariant-values
invariant-values l = record {
  values : l.values.items ++ values_at (drop l.dim-index l.dims) l.rest ≡ values_at l.dims l.place;
  size : l.size ≡ box_size (drop l.dim-index l.dims);
  rest : l.rest < l.size;
  sound : AreNumbered (drop l.dim-index l.dims);
  room : length l.values.items ≡ l.dim-index;
}

abbrev pub invariant-least : goal.invariant-least
invariant-least l = l.values.items ≡ map (λ d. d.lo) (take l.dim-index l.dims)
