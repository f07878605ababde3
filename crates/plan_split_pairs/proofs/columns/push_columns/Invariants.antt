use Rattle.std.proofs.Common.{◌≡◌, ◌+◌, ◌≤◌, ◌++◌, take, map, filter, length}
use Rattle.sem_query.specs.declared.atom.Element.TheVariants as element
use Rattle.sem_query.specs.Parts.{pair}
use Rattle.plan_split_pairs.specs.Pairs.{are_beside}
use Rattle.plan_split_pairs.proofs.columns.push_columns.Given as goal

abbrev pub invariant-columns : goal.invariant-columns
invariant-columns l = record {
  pairs : l.list.items ≡ l.fn.list.items ++ map (λ b. pair l.fn.attr (element.Attr b)) (filter (are_beside l.q l.fn.attr) (take l.other-index l.others));
  few : length l.list.items ≤ length l.fn.list.items + l.other-index;
}
