use Rattle.std.proofs.Common.{◌≡◌, ◌+◌, ◌≤◌, drop, length}
use Rattle.adv_mends.specs.Sets.{columns_with}
use Rattle.adv_mends.proofs.searching.columns_with.Given as goal

abbrev pub invariant-columns : goal.invariant-columns
invariant-columns l = record {
  is : columns_with l.list.items (drop l.column-index l.others) ≡ columns_with l.columns l.others;
  few : length l.list.items ≤ length l.columns + l.column-index;
}
