use Rattle.std.proofs.Common.{◌≡◌, ◌≤◌, take, filter, not, length}
use Rattle.adv_mends.specs.Sets.{has_domain}
use Rattle.adv_mends.proofs.searching.without_domains.Given as goal

abbrev pub invariant-columns : goal.invariant-columns
invariant-columns l = record {
  is : l.list.items ≡ filter (λ a. not (has_domain l.domains a)) (take l.column-index l.columns);
  few : length l.list.items ≤ l.column-index;
}
