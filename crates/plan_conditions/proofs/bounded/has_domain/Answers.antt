use Rattle.plan_conditions.proofs.Unnamed.{has_told, lacks_told}
use Rattle.plan_conditions.proofs.bounded.has_domain.Goals as goal

pub returns-in-Some : goal.returns-in-Some
returns-in-Some c = has_told c.args.q.now c.args.p.now.signs.items c.args.attr _ _ c.domains.ensures.value c.in-Some.ensures

pub returns-in-None : goal.returns-in-None
returns-in-None c = lacks_told c.args.q.now c.args.p.now.signs.items c.args.attr _ c.domains.ensures.value c.requires.part c.requires.unnamed c.in-None.ensures
