use Rattle.std.proofs.Common.{◌≡◌, ◌+◌, ◌≤◌, drop, length}
use Rattle.adv_mends.specs.Mended.{domains_with}
use Rattle.adv_mends.proofs.writing.domains_with.Given as goal

abbrev pub invariant-columns : goal.invariant-columns
invariant-columns l = record {
  is : domains_with l.ends l.list.items (drop l.column-index l.columns) ≡ domains_with l.ends l.domains l.columns;
  few : length l.list.items ≤ length l.domains + l.column-index;
}
