use Rattle.std.proofs.Common.{◌≡◌, ◌≤◌, take, length}
use Rattle.adv_key_ranges.specs.Narrowed.{of_others}
use Rattle.adv_key_ranges.proofs.narrowing.of_others.Given as goal

-- the domains so far
abbrev pub invariant-domains : goal.invariant-domains
invariant-domains l = record {
  is : l.list.items ≡ of_others l.columns (take l.domain-index l.fn.domains);
  few : length l.list.items ≤ l.domain-index;
}
