use Rattle.std.proofs.Common.{◌≡◌, ◌+◌, ◌≤◌, take, length}
use Rattle.sql_parser.specs.Limits.{integers_in}
use Rattle.sql_parser.proofs.limits.integers_named.Given as goal

abbrev pub invariant-loop-atom : goal.invariant-loop-atom
invariant-loop-atom l = record {
  so_far : l.integers.items ≡ integers_in (take l.atom-index l.atoms);
  room : length l.integers.items ≤ l.atom-index + l.atom-index;
}
