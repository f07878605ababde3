use Rattle.std.proofs.Common.{◌≡◌, ◌≤◌, take, length}
use Rattle.std.specs.List.{flat_map}
use Rattle.plan_split_pairs.specs.Pairs.{unlike_pair}
use Rattle.plan_split_pairs.proofs.unlike.unlikes.Given as goal

abbrev pub invariant-atoms : goal.invariant-atoms
invariant-atoms l = record {
  pairs : l.list.items ≡ flat_map unlike_pair (take l.atom-index l.atoms);
  few : length l.list.items ≤ l.atom-index;
}
