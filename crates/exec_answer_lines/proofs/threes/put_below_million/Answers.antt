use Rattle.std.proofs.Common.{◌++◌, ◌/◌, ◌%◌, ◌∙◌, ap, sym, drop, append_assoc}
use Rattle.std.specs.Fmt.{decimal}
use Rattle.exec_answer_lines.specs.Digits.{three_digits}
use Rattle.exec_answer_lines.proofs.ThreeDigits.{decimal_more}
use Rattle.exec_answer_lines.proofs.threes.put_below_million.Goals as goal

pub returns-clause-text : goal.returns-clause-text
returns-clause-text c =
    let n = c.args.number in
    let rest = drop c.args.end c.args.line.now in
    c.put_below_thousand.ensures.text
    ∙ ap (λ l. decimal (n / 1000) ++ l) c.put_below_thousand-start.ensures.digits
    ∙ sym (append_assoc (decimal (n / 1000)) (three_digits (n % 1000)) rest)
    ∙ ap (λ l. l ++ rest) (sym (decimal_more n c.requires.low c.requires.high))
