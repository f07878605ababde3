use Rattle.std.proofs.Common.{◌≡◌, ◌≤◌, ◌+◌, ◌*◌, ◌++◌, length, take}
use Rattle.cert_format.specs.Text.{numbers_text}
use Rattle.cert_format.proofs.printing.push_numbers.Given as goal

-- the numbers so far are there
abbrev pub invariant-loop-number : goal.invariant-loop-number
invariant-loop-number l = record {
  bytes : l.text.items ≡ l.fn.text.items ++ numbers_text (take l.number-index l.numbers);
  short : length l.text.items ≤ length l.fn.text.items + l.number-index * 6;
}
