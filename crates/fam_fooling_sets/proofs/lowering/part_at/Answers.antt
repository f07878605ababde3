use Rattle.std.proofs.Common.{subst, sym}
use Rattle.sem_query.specs.declared.part.Part.{Part}
use Rattle.fam_fooling_sets.specs.Lowered.{IsBroken}
use Rattle.fam_fooling_sets.proofs.FromPart.{part-below, part-broken}
use Rattle.fam_fooling_sets.proofs.lowering.part_at.Goals as goal

pub bounds-parts-part : goal.bounds-parts-part
bounds-parts-part c = (part-below c.args.q.now c.from-from.ensures.limits c.args.parts.now c.requires.parts record { part = c.args.part; condition = c.args.condition; attr = c.args.attr } c.requires.decision).0

pub returns : goal.returns
returns c =
    subst (λ (z : Part). IsBroken c.args.q.now z.signs.items c.args.condition c.args.attr) (sym c.index-parts-part.is)
    (part-broken c.args.q.now c.from-from.ensures.limits c.args.parts.now c.requires.parts record { part = c.args.part; condition = c.args.condition; attr = c.args.attr } c.requires.decision c.index-parts-part.result)
