use Rattle.std.proofs.Common.{◌≡◌, length}
use Rattle.exec_part_index.specs.Prepared.{ArePartIndexes}
use Rattle.exec_part_index.proofs.prepared.index_parts.Given as goal

abbrev pub invariant-places : goal.invariant-places
invariant-places l = record {
  many : length l.all.items ≡ l.place;
  part_index : ArePartIndexes l.q l.parts l.all.items;
}
