use Rattle.std.proofs.Common.{◌≡◌, ◌≤◌, take, length}
use Rattle.std.specs.List.{flat_map}
use Rattle.sem_query.specs.Parts.{soft_pair}
use Rattle.sem_query.proofs.query.soft_pairs.Given as goal

abbrev pub invariant-atoms : goal.invariant-atoms
invariant-atoms l = record {
  pairs : l.list.items ≡ flat_map soft_pair (take l.atom-index l.atoms);
  few : length l.list.items ≤ l.atom-index;
}
