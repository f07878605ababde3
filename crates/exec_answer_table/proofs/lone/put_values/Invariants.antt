use Rattle.std.proofs.Common.{◌≡◌, take}
use Rattle.exec_answer_table.proofs.lone.put_values.Given as goal

abbrev pub invariant-loop-value : goal.invariant-loop-value
invariant-loop-value l = l.tuple.items ≡ take l.value-index l.t
