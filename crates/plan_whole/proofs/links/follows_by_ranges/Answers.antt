use Rattle.std.proofs.Common.{◌↔◌, IsTrue, subst}
use Rattle.sem_whole.specs.System.{system}
use Rattle.plan_whole.specs.Closed.{ends_of, IsMet}
use Rattle.plan_whole.proofs.Following.{ranges_told}
use Rattle.plan_whole.proofs.links.follows_by_ranges.Goals as goal

pub returns : goal.returns
returns c =
    ranges_told (system c.args.closed.now) c.args.bound (ends_of c.ends-high.result) (ends_of c.ends-low.result) c.is_within.result c.ends-high.ensures.ends c.ends-low.ensures.ends
    (subst (λ o. IsTrue c.is_within.result ↔ IsMet o c.args.bound.by) c.apart.ensures.value c.is_within.ensures)
