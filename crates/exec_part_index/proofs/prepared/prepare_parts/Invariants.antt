use Rattle.std.proofs.Common.{take}
use Rattle.sem_query.specs.Parts.{pairs}
use Rattle.exec_part_index.specs.Prepared.{ArePrepared}
use Rattle.exec_part_index.proofs.prepared.prepare_parts.Given as goal

abbrev pub invariant-parts : goal.invariant-parts
invariant-parts l = ArePrepared (pairs l.q) (take l.i l.parts) l.prepared.items
