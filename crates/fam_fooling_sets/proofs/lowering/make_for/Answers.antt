use Rattle.fam_fooling_sets.specs.Shown.{rows_in}
use Rattle.fam_fooling_sets.proofs.FromPart.{lowered}
use Rattle.fam_fooling_sets.proofs.lowering.make_for.Goals as goal

pub returns : goal.returns
returns c = lowered c.args.q.now c.args.p.now.signs.items c.args.condition c.args.attr (rows_in c.args.blanks.now) c.args.n c.make.result c.requires.broken c.requires.local c.requires.first_two c.make.ensures
