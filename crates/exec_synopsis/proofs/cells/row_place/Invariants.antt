use Rattle.std.proofs.Common.{◌≡◌, ◌+◌, ◌*◌, drop}
use Rattle.sem_query.specs.Boxes.{box_size, AreFull, AreNumbered, AreInside}
use Rattle.sem_query.specs.Cells.{dim_values, row_place}
use Rattle.sem_query.specs.Meaning.{by_column}
use Rattle.exec_synopsis.proofs.cells.row_place.Given as goal

abbrev pub invariant-places : goal.invariant-places
invariant-places l = record {
  place : l.place * box_size (drop l.dim-index l.dims) + row_place (drop l.dim-index l.dims) (by_column l.row) ≡ row_place l.dims (by_column l.row);
  full : AreFull (drop l.dim-index l.dims);
  sound : AreNumbered (drop l.dim-index l.dims);
  inside : AreInside (drop l.dim-index l.dims) (dim_values (drop l.dim-index l.dims) (by_column l.row));
}
