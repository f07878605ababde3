use Rattle.std.proofs.Common.{◌≡◌, ◌≤◌, take, map, length, cond}
use Rattle.sem_query.specs.Query.{attr_eq}
use Rattle.sem_query.proofs.groups.replaced.Given as goal

abbrev pub invariant-columns : goal.invariant-columns
invariant-columns l = record {
  is : l.list.items ≡ map (λ g. cond (attr_eq g l.old) l.new g) (take l.column-index l.table);
  few : length l.list.items ≤ l.column-index;
}
