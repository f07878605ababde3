use Rattle.std.proofs.Common.{◌≡◌, ◌++◌, ◌+◌, ◌≤◌, take, length}
use Rattle.sql_parser.specs.Limits.{columns_in}
use Rattle.adv_diagnosis.proofs.names.put_compared.Given as goal

abbrev pub invariant-loop-atom : goal.invariant-loop-atom
invariant-loop-atom l = record {
  so_far : l.columns.items ≡ l.fn.columns.items ++ columns_in (take l.atom-index l.atoms);
  room : length l.columns.items ≤ 8 + (l.atom-index + l.atom-index);
}
