use Rattle.std.proofs.Common.{arith, rules}
use Rattle.exec_pool.proofs.Bits.{first_found, none_found}
use Rattle.exec_pool.proofs.counted.first_set.Goals as goal

pub returns-then-first-count : goal.returns-then-first-count
returns-then-first-count c =
    let bits = first_found c.args.word c.args.from c.args.count (search rules) c.requires.page c.if-first-count.true in
    (c.if-first-count.true, bits.0, bits.1)

pub returns-else-first-count : goal.returns-else-first-count
returns-else-first-count c = none_found c.args.word c.args.from c.args.count (search rules) (λ h. absurd (omega (arith, h, c.if-first-count.false)))
