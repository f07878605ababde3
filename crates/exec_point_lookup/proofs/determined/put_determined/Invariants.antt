use Rattle.std.proofs.Common.{◌≡◌, length, take}
use Rattle.exec_point_lookup.specs.Known.{AreKnown}
use Rattle.exec_point_lookup.proofs.determined.put_determined.Given as goal

abbrev pub invariant-columns : goal.invariant-columns
invariant-columns l = record {
  many : length l.tuple.items ≡ l.a-index;
  known : AreKnown l.part l.pos l.row (take l.a-index l.columns) l.tuple.items;
}
