use Rattle.std.proofs.Common.{arith}
use Rattle.cmd_dispatch.proofs.WordForms.{one_size}
use Rattle.cmd_dispatch.proofs.words.read_size.Goals as goal

pub returns-then-number-eq0-clause-size : goal.returns-then-number-eq0-clause-size
returns-then-number-eq0-clause-size c = λ n is.
    let same = one_size c.args.most c.args.text.now c.in-Some.number n (omega arith) (omega arith) c.in-Some.ensures is in
    absurd (omega (arith, same, is.some))

pub returns-then-most-number-clause-size : goal.returns-then-most-number-clause-size
returns-then-most-number-clause-size c = λ n is.
    let same = one_size c.args.most c.args.text.now c.in-Some.number n (omega arith) (omega arith) c.in-Some.ensures is in
    absurd (omega (arith, same, is.few))
