use Rattle.std.proofs.Common.{◌≡◌, ◌*◌, take, length}
use Rattle.std.specs.List.{flat_map}
use Rattle.adv_mends.specs.Mended.{bounds_of}
use Rattle.adv_mends.proofs.writing.bounds_on.Given as goal

abbrev pub invariant-columns : goal.invariant-columns
invariant-columns l = record {
  is : l.list.items ≡ flat_map (bounds_of l.ends) (take l.column-index l.columns);
  few : length l.list.items ≡ 2 * l.column-index;
}
