use Rattle.exec_part_index.proofs.Linked.{next_linked}
use Rattle.exec_part_index.proofs.part_index.PartIndex.after.Goals as goal

pub returns-clause-next : goal.returns-clause-next
returns-clause-next c = next_linked c.args.q.now c.args.parts.now c.args.pos c.args.self.now c.requires.part_index c.args.i c.entry.result.now.next c.requires.inside c.entry.ensures.next
