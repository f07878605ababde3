use Rattle.std.proofs.Common.{◌≡◌, ◌≤◌, ◌+◌, ◌*◌, drop, replicate}
use Rattle.std.specs.List.{flat_map}
use Rattle.exec_answer_lines.proofs.lines.repeat_text.Given as goal

abbrev pub invariant-copies : goal.invariant-copies
invariant-copies l = record {
  text : drop l.at l.line ≡ flat_map (λ text. text) (replicate (l.k + 1) (drop l.start l.fn.line));
  behind : drop l.start l.line ≡ drop l.start l.fn.line;
  room : l.start ≤ l.at + 16 * l.k;
  inside : l.at ≤ l.start;
}
