use Rattle.std.proofs.Common.{refl}
use Rattle.plan_links.proofs.InPartFacts.{satisfiable}
use Rattle.fam_fooling_sets.proofs.FromPart.{ground-made}
use Rattle.fam_fooling_sets.proofs.lowering.ground_of.Goals as goal

pub low_end-requires-clause-satisfiable : goal.low_end-requires-clause-satisfiable
low_end-requires-clause-satisfiable c = satisfiable c.args.q.now c.args.p.now.signs.items c.args.bounds.now c.requires.known

pub high_end-requires-clause-satisfiable : goal.high_end-requires-clause-satisfiable
high_end-requires-clause-satisfiable c = satisfiable c.args.q.now c.args.p.now.signs.items c.args.bounds.now c.requires.known

pub returns-clause-ground : goal.returns-clause-ground
returns-clause-ground c =
    ground-made c.args.q.now c.args.p.now.signs.items c.args.attr _ c.requires.known c.requires.free c.attrs-attrs.ensures.value c.from.ensures.value refl c.node_of-node.ensures
    c.low_end.ensures.answer c.high_end.ensures.answer c.low_end.ensures.small c.high_end.ensures.small
