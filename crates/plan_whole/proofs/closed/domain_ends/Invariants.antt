use Rattle.std.proofs.Common.{◌≡◌, drop}
use Rattle.plan_whole.specs.Closed.{domain_ends}
use Rattle.plan_whole.proofs.closed.domain_ends.Given as goal

abbrev pub invariant-loop-domain : goal.invariant-loop-domain
invariant-loop-domain l = domain_ends l.domains l.a ≡ domain_ends (drop l.domain-index l.domains) l.a
