use Rattle.std.proofs.Common.{◌≡◌, ◌≤◌, take, length}
use Rattle.sem_query.specs.Parts.{each_once}
use Rattle.sem_query.proofs.query.each_once.Given as goal

abbrev pub invariant-pairs : goal.invariant-pairs
invariant-pairs l = record {
  once : l.list.items ≡ each_once (take l.pair-index l.pairs);
  few : length l.list.items ≤ l.pair-index;
}
