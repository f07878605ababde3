use Rattle.std.proofs.Common.{◌≡◌, ◌++◌, drop}
use Rattle.sem_query.specs.Query.{attrs_of}
use Rattle.sem_query.specs.Parts.{each_once}
use Rattle.plan_split_pairs.specs.Pairs.{own_pairs}
use Rattle.plan_split_pairs.specs.Listed.{IsOnce}
use Rattle.plan_split_pairs.proofs.pairs.add_own.Given as goal

abbrev pub invariant-loop-i : goal.invariant-loop-i
invariant-loop-i l = record {
  once : IsOnce l.list.items;
  left : each_once (l.list.items ++ own_pairs l.q (drop l.i l.attrs)) ≡ each_once (l.fn.list.items ++ own_pairs l.q (attrs_of l.q.atoms));
}
