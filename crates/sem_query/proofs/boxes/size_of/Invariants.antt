use Rattle.std.proofs.Common.{◌≡◌, ◌≤◌, length, drop}
use Rattle.sem_query.specs.Boxes.{box_size}
use Rattle.sem_query.proofs.boxes.size_of.Given as goal

abbrev pub invariant-sizes : goal.invariant-sizes
invariant-sizes l = record {
  size : l.size ≡ box_size (drop l.i l.dims);
  within : l.i ≤ length l.dims;
}

abbrev pub decreases-sizes : goal.decreases-sizes
decreases-sizes l = l.i
