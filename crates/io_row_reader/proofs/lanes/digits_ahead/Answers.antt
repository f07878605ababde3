use Rattle.std.proofs.Common.{◌≡◌, take, drop, ◌∙◌, arith}
use Rattle.std.specs.List.{prefix_len}
use Rattle.std.proofs.lemmas.List.Sums.{prefix_len-le-length}
use Rattle.std.proofs.lemmas.List.{length-take}
use Rattle.sql_text.specs.Word.{is_digit}
use Rattle.io_row_reader.proofs.DigitLanes.{run_whole}
use Rattle.io_row_reader.proofs.lanes.digits_ahead.Goals as goal

pub returns-clause-digits : goal.returns-clause-digits
returns-clause-digits c =
    let rest = drop c.args.start c.args.text.now in
    let seen : c.digits_in-digits.result ≡ prefix_len is_digit (take 16 rest) = c.digits_in-digits.ensures in
    seen ∙ run_whole is_digit 16 rest (omega (arith, seen, c.if-digits-eq-LANES.false, prefix_len-le-length is_digit (take 16 rest), length-take 16 rest))

pub returns-clause-few : goal.returns-clause-few
returns-clause-few c =
    let rest = drop c.args.start c.args.text.now in
    let seen : c.digits_in-digits.result ≡ prefix_len is_digit (take 16 rest) = c.digits_in-digits.ensures in
    omega (arith, seen, c.if-digits-eq-LANES.false, prefix_len-le-length is_digit (take 16 rest), length-take 16 rest)

pub returns-clause-within : goal.returns-clause-within
returns-clause-within c =
    let rest = drop c.args.start c.args.text.now in
    let seen : c.digits_in-digits.result ≡ prefix_len is_digit (take 16 rest) = c.digits_in-digits.ensures in
    omega (arith, seen, c.if-text-start-lt-LANES.false, c.if-digits-eq-LANES.false, prefix_len-le-length is_digit (take 16 rest), length-take 16 rest)
