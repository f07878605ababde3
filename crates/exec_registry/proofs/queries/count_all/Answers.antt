use Rattle.std.proofs.Common.{arith}
use Rattle.exec_registry.proofs.Shown.{shown_level}
use Rattle.exec_registry.proofs.queries.count_all.Goals as goal

pub returns-clause-shown : goal.returns-clause-shown
returns-clause-shown c =
    let size = c.loop-k.invariant.size in
    let end = c.loop-k-test.false in
    shown_level c.args.rows c.args.runners.now c.loop-k.runners size (λ i r a. c.loop-k.invariant.done i r (omega (arith, a, size, end)) a)
