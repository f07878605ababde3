use Rattle.std.proofs.Common.{◌≡◌, ◌≤◌, ◌+◌, ◌∷◌, not, filter, length, take}
use Rattle.sem_query.specs.Query.{attr_eq}
use Rattle.exec_restore.proofs.ranges.with_first.Given as goal

abbrev pub invariant-others : goal.invariant-others
invariant-others l = record {
  columns : l.columns.items ≡ l.a ∷ filter (λ b. not (attr_eq l.a b)) (take l.b-index l.others);
  few : length l.columns.items ≤ l.b-index + 1;
}
