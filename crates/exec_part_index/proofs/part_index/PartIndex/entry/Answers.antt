use Rattle.exec_part_index.proofs.Shifting.{entry_in}
use Rattle.exec_part_index.proofs.part_index.PartIndex.entry.Goals as goal

pub returns : goal.returns
returns c =
    entry_in c.args.parts.now c.args.pos c.args.self.now.codes.items c.args.self.now.links.items c.args.self.now.spans.items c.args.self.now.entries.items c.args.i c.index.result.now c.requires.part_index.entries
    c.requires.inside c.index.ensures
