use Rattle.std.proofs.Common.{◌≡◌, take, drop, ap, ◌∙◌, arith}
use Rattle.std.specs.List.{prefix_len}
use Rattle.std.proofs.lemmas.List.{take-take}
use Rattle.sql_text.specs.Word.{is_digit}
use Rattle.sql_text.specs.Value.{amount}
use Rattle.io_row_reader.proofs.DigitLanes.{few_small, run_whole}
use Rattle.io_row_reader.proofs.lanes.short_amount_at.Goals as goal

pub returns-clause-digits : goal.returns-clause-digits
returns-clause-digits c =
    let rest = drop c.args.start c.args.text.now in
    let seen : c.digits_in-digits.result ≡ prefix_len is_digit (take 16 rest) = c.digits_in-digits.ensures in
    seen ∙ run_whole is_digit 16 rest (omega (arith, seen, c.if-digits-ge15.false))

pub returns-clause-amount : goal.returns-clause-amount
returns-clause-amount c =
    c.amount_of.ensures ∙ ap amount (take-take c.digits_in-digits.result 16 (drop c.args.start c.args.text.now) (omega (arith, c.if-digits-ge15.false)))

pub returns-clause-small : goal.returns-clause-small
returns-clause-small c =
    let rest = drop c.args.start c.args.text.now in
    let n = c.digits_in-digits.result in
    let seen : n ≡ prefix_len is_digit (take 16 rest) = c.digits_in-digits.ensures in
    few_small rest n c.amount_of.result (seen ∙ run_whole is_digit 16 rest (omega (arith, seen, c.if-digits-ge15.false))) (omega (arith, c.if-digits-ge15.false))
    (c.amount_of.ensures ∙ ap amount (take-take n 16 rest (omega (arith, c.if-digits-ge15.false))))
