use Rattle.std.proofs.Common.{◌≡◌, filter, take}
use Rattle.exec_answer_table.specs.Rows.{counts_for}
use Rattle.exec_answer_table.proofs.rows.list_due.Given as goal

abbrev pub invariant-loop-i : goal.invariant-loop-i
invariant-loop-i l = record {
  due : l.due.items ≡ filter (counts_for l.counts) (take l.i l.order.items);
  room : l.due.room ≡ l.fn.due.room;
}
