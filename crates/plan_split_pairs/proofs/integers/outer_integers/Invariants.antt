use Rattle.std.proofs.Common.{◌≡◌, ◌≤◌, take, map, length}
use Rattle.plan_split_pairs.specs.Outer.{nearest_short, ascending_once}
use Rattle.plan_split_pairs.proofs.integers.outer_integers.Given as goal

abbrev pub invariant-integers : goal.invariant-integers
invariant-integers l = record {
  put : l.list.items ≡ ascending_once (map nearest_short (take l.integer-index l.integer-items));
  few : length l.list.items ≤ l.integer-index;
}
