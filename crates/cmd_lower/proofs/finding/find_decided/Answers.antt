use Rattle.std.proofs.Common.{subst}
use Rattle.sem_query.specs.Verdict.{IsDecision}
use Rattle.cmd_lower.proofs.Found.{bounded-plainly}
use Rattle.cmd_lower.proofs.finding.find_decided.Goals as goal

pub find_moved-requires-clause-broken : goal.find_moved-requires-clause-broken
find_moved-requires-clause-broken c = subst (λ d. IsDecision c.args.script.now.query d) c.in-All-Violation.is-1 c.requires.decision

pub find_moved-requires-clause-reason : goal.find_moved-requires-clause-reason
find_moved-requires-clause-reason c = λ many. c.requires.reason (λ all. many)

pub returns-in-All-Bounded : goal.returns-in-All-Bounded
returns-in-All-Bounded c =
    bounded-plainly c.args.script.now c.args.form c.requires.plain c.requires.few (subst (λ d. IsDecision c.args.script.now.query d) c.in-All-Bounded.is-1 c.requires.decision)
