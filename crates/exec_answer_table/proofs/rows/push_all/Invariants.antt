use Rattle.std.proofs.Common.{◌≡◌, ◌≤◌, ◌++◌, take, vec_capacity}
use Rattle.exec_answer_table.proofs.rows.push_all.Given as goal

abbrev pub invariant-loop-value : goal.invariant-loop-value
invariant-loop-value l = record {
  values : l.values.items ≡ l.fn.values.items ++ take l.value-index l.t;
  room : vec_capacity l.fn.values ≤ vec_capacity l.values;
}
