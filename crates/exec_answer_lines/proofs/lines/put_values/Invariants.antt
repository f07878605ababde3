use Rattle.std.proofs.Common.{◌≡◌, ◌≤◌, ◌+◌, ◌*◌, ◌++◌, [], ◌∷◌, length, drop}
use Rattle.sql_text.specs.Tuple.{tuple_text}
use Rattle.exec_answer_lines.proofs.lines.put_values.Given as goal

abbrev pub invariant-loop-left : goal.invariant-loop-left
invariant-loop-left l = record {
  text : drop l.start l.line ≡ tuple_text (drop l.left l.values) ++ 10 ∷ [];
  room : 359 + 21 * l.left ≤ l.start;
  inside : l.start ≤ 527;
  len : length l.line ≡ 528;
  left : l.left ≤ length l.values;
}

abbrev pub decreases-loop-left : goal.decreases-loop-left
decreases-loop-left l = l.left
