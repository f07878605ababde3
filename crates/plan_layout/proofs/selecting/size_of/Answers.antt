use Rattle.plan_layout.proofs.Ranging.{size_told, size_none}
use Rattle.plan_layout.proofs.selecting.size_of.Goals as goal

pub returns-in-Some : goal.returns-in-Some
returns-in-Some c = size_told c.args.q.now c.args.p.now.signs.items c.args.attr c.in-Some.range _ c.in-Some.ensures c.values_of.ensures

pub returns-in-None : goal.returns-in-None
returns-in-None c = size_none c.args.q.now c.args.p.now.signs.items c.args.attr _ c.in-None.ensures
