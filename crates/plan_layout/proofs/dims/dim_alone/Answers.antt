use Rattle.plan_layout.proofs.Wanting.{no_range}
use Rattle.plan_layout.proofs.Unnamed.{alone_found, alone_none}
use Rattle.plan_layout.proofs.dims.dim_alone.Goals as goal

pub returns-then-not-is_among : goal.returns-then-not-is_among
returns-then-not-is_among c = alone_none c.args.q.now c.args.p.now.signs.items c.args.attr c.requires.unnamed c.args.place _ _ c.select.ensures.value c.is_among.ensures c.if-not-is_among.true

pub returns-in-Some : goal.returns-in-Some
returns-in-Some c = alone_found c.args.q.now c.args.p.now.signs.items c.args.attr c.requires.unnamed c.args.place _ _ c.select.ensures.value c.is_among.ensures c.if-not-is_among.false c.in-Some.range _ c.requires.here c.in-Some.ensures c.dim_of.ensures

pub returns-in-None : goal.returns-in-None
returns-in-None c = no_range c.args.q.now c.args.p.now.signs.items c.args.place c.args.attr c.in-None.ensures
