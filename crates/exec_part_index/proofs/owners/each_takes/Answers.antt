use Rattle.std.proofs.Common.{◌∙◌, sym}
use Rattle.exec_part_index.proofs.Owning.{each-takes}
use Rattle.exec_part_index.proofs.owners.each_takes.Goals as goal

pub returns : goal.returns
returns c = λ t. each-takes c.args.q.now c.args.parts.now c.args.place c.args.owns.now c.requires (sym c.are_set.ensures ∙ t)
