use Rattle.std.proofs.Common.{◌≡◌, length, rules}
use Rattle.sem_query.specs.Parts.{pairs}
use Rattle.exec_part_index.proofs.PreparedParts.{prepared-length, part_prepared}
use Rattle.exec_part_index.proofs.prepared.PreparedPlan.part.Goals as goal

pub index-requires : goal.index-requires
index-requires c =
    let l : length c.args.self.now.parts.items ≡ length c.args.parts.now = prepared-length (pairs c.args.q.now) c.args.parts.now c.args.self.now.parts.items c.requires.prepared.each in
    search rules

pub returns : goal.returns
returns c = part_prepared (pairs c.args.q.now) c.args.parts.now c.args.self.now.parts.items c.index.result.now c.args.i c.requires.prepared.each c.requires.inside c.index.ensures
