use Rattle.std.proofs.Common.{◌≡◌, ◌+◌, ◌*◌, drop}
use Rattle.sem_query.specs.Boxes.{box_size, place_of, AreInside, AreNumbered}
use Rattle.sem_query.proofs.boxes.place_of.Given as goal

abbrev pub invariant-places : goal.invariant-places
invariant-places l = record {
  place : l.place * box_size (drop l.i l.dims) + place_of (drop l.i l.dims) (drop l.i l.values) ≡ place_of l.dims l.values;
  inside : AreInside (drop l.i l.dims) (drop l.i l.values);
  sound : AreNumbered (drop l.i l.dims);
}
