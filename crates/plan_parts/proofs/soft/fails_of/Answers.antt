use Rattle.plan_parts.proofs.Failing.{fails_told}
use Rattle.plan_parts.proofs.soft.fails_of.Goals as goal

pub returns : goal.returns
returns c = fails_told c.args.q.now c.args.pair _ _ _ _ _ _ c.atoms.ensures.value c.atoms-2.ensures.value c.atoms-3.ensures.value c.some_fails.ensures c.some_fails-2.ensures c.some_fails-3.ensures
