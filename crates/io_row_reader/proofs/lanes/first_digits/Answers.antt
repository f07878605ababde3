use Rattle.std.proofs.Common.{◌≡◌, take, drop, ap, ◌∙◌, arith}
use Rattle.std.specs.List.{prefix_len}
use Rattle.std.proofs.lemmas.List.{take-take}
use Rattle.sql_text.specs.Word.{is_digit}
use Rattle.sql_text.specs.Value.{amount}
use Rattle.io_row_reader.proofs.DigitLanes.{run_within}
use Rattle.io_row_reader.proofs.lanes.first_digits.Goals as goal

pub returns-clause-digits : goal.returns-clause-digits
returns-clause-digits c =
    let rest = drop c.args.start c.args.text.now in
    let seen : c.digits_in.result ≡ prefix_len is_digit (take 16 rest) = c.digits_in.ensures in
    omega (arith, seen, c.if-digits_in-lt-LANES.false, run_within is_digit 16 rest)

pub returns-clause-amount : goal.returns-clause-amount
returns-clause-amount c =
    c.amount_of.ensures ∙ ap amount (take-take 16 16 (drop c.args.start c.args.text.now) (omega arith))
