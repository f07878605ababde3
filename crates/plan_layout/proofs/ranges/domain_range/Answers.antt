use Rattle.plan_layout.proofs.Unnamed.{domain_ranged, no_domain}
use Rattle.plan_layout.proofs.ranges.domain_range.Goals as goal

pub returns-in-Some : goal.returns-in-Some
returns-in-Some c = domain_ranged c.args.q.now c.args.p.now.signs.items c.requires.part c.args.attr c.requires.unnamed _ _ c.domains.ensures.value c.domains.ensures.limits c.in-Some.ensures _ c.range_in.ensures

pub returns-in-None : goal.returns-in-None
returns-in-None c = no_domain c.args.q.now c.args.p.now.signs.items c.requires.part c.args.attr c.requires.unnamed _ c.domains.ensures.value c.in-None.ensures
