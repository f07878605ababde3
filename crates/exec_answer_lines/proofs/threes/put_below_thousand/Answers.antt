use Rattle.std.proofs.Common.{◌++◌, ◌∙◌, ap, sym, refl, drop, arith}
use Rattle.exec_answer_lines.specs.Digits.{three_digits}
use Rattle.exec_answer_lines.proofs.Tails.{tail_before}
use Rattle.exec_answer_lines.proofs.ThreeDigits.{put_row, decimal_three, two_of_three, one_of_three}
use Rattle.exec_answer_lines.proofs.threes.put_below_thousand.Goals as goal

pub returns-then-number-ge100-clause-text : goal.returns-then-number-ge100-clause-text
returns-then-number-ge100-clause-text c =
    put_row c.args.line.now c.args.end c.args.number c.requires.few c.requires.room c.requires.inside
    ∙ ap (λ l. l ++ drop c.args.end c.args.line.now) (sym (decimal_three c.args.number c.if-number-ge100.true c.requires.few))

pub returns-then-number-ge10-clause-text : goal.returns-then-number-ge10-clause-text
returns-then-number-ge10-clause-text c =
    tail_before 3 _ (three_digits c.args.number) _ c.args.end 2 refl (omega arith) (omega (arith, c.requires.room))
    (put_row c.args.line.now c.args.end c.args.number c.requires.few c.requires.room c.requires.inside)
    ∙ ap (λ l. l ++ drop c.args.end c.args.line.now) (sym (two_of_three c.args.number c.if-number-ge10.true c.if-number-ge100.false))

pub returns-clause-text : goal.returns-clause-text
returns-clause-text c =
    tail_before 3 _ (three_digits c.args.number) _ c.args.end 1 refl (omega arith) (omega (arith, c.requires.room))
    (put_row c.args.line.now c.args.end c.args.number c.requires.few c.requires.room c.requires.inside)
    ∙ ap (λ l. l ++ drop c.args.end c.args.line.now) (sym (one_of_three c.args.number c.if-number-ge10.false))

pub returns-then-number-ge100-clause-digits : goal.returns-then-number-ge100-clause-digits
returns-then-number-ge100-clause-digits c = put_row c.args.line.now c.args.end c.args.number c.requires.few c.requires.room c.requires.inside

pub returns-then-number-ge10-clause-digits : goal.returns-then-number-ge10-clause-digits
returns-then-number-ge10-clause-digits c = put_row c.args.line.now c.args.end c.args.number c.requires.few c.requires.room c.requires.inside

pub returns-clause-digits : goal.returns-clause-digits
returns-clause-digits c = put_row c.args.line.now c.args.end c.args.number c.requires.few c.requires.room c.requires.inside
