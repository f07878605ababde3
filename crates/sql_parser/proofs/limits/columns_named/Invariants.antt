use Rattle.std.proofs.Common.{◌≡◌, ◌+◌, ◌≤◌, take, length}
use Rattle.sql_parser.specs.Limits.{columns_in}
use Rattle.sql_parser.proofs.limits.columns_named.Given as goal

abbrev pub invariant-loop-atom : goal.invariant-loop-atom
invariant-loop-atom l = record {
  so_far : l.columns.items ≡ columns_in (take l.atom-index l.atoms);
  room : length l.columns.items ≤ l.atom-index + l.atom-index;
}
