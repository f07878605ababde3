use Rattle.std.proofs.Common.{◌≡◌, ◌++◌, drop}
use Rattle.sem_query.specs.Parts.{each_once}
use Rattle.plan_split_pairs.specs.Listed.{IsOnce}
use Rattle.plan_split_pairs.proofs.once.add_each.Given as goal

abbrev pub invariant-loop-pair : goal.invariant-loop-pair
invariant-loop-pair l = record {
  once : IsOnce l.list.items;
  left : each_once (l.list.items ++ drop l.pair-index l.pairs) ≡ each_once (l.fn.list.items ++ l.pairs);
}
