use Rattle.cert_checker.proofs.WalkedChains.{tests_cycle}
use Rattle.cert_checker.proofs.chain.is_negative_cycle.Goals as goal

pub returns-in-Some : goal.returns-in-Some
returns-in-Some c = tests_cycle c.args.cs.now c.args.numbers.now c.in-Some.chain c.closes.result c.in-Some.ensures.chain c.closes.ensures
