use Rattle.std.proofs.Common.{◌≡◌, ◌+◌, ◌≤◌, drop, length}
use Rattle.adv_mends.specs.Mended.{domains_with}
use Rattle.adv_key_ranges.specs.Narrowed.{of_others}
use Rattle.adv_key_ranges.proofs.narrowing.domains_with.Given as goal

abbrev pub invariant-columns : goal.invariant-columns
invariant-columns l = record {
  is : domains_with l.ends l.list.items (drop l.column-index l.columns) ≡ domains_with l.ends (of_others l.columns l.domains) l.columns;
  few : length l.list.items ≤ 20 + l.column-index;
}
