use Rattle.std.proofs.Common.{◌≡◌, ◌+◌, take, drop}
use Rattle.std.specs.List.{prefix_len}
use Rattle.sql_text.specs.Word.{is_digit}
use Rattle.sql_text.specs.Value.{amount, IsKept}
use Rattle.sql_text.proofs.value.long_amount.Given as goal

-- all bytes so far are digits, and their amount is kept
abbrev pub invariant-loop-i : goal.invariant-loop-i
invariant-loop-i l = record {
  digits : prefix_len is_digit l.text ≡ l.i + prefix_len is_digit (drop l.i l.text);
  amount : IsKept l.amount (amount (take l.i l.text));
}
