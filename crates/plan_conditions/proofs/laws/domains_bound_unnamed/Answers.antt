use Rattle.plan_conditions.proofs.ByDomains.{domains-bound-unnamed}
use Rattle.plan_conditions.proofs.laws.domains_bound_unnamed.Goals as goal

pub returns : goal.returns
returns c = domains-bound-unnamed
