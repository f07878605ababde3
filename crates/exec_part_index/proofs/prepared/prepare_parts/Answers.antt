use Rattle.std.proofs.Common.{arith}
use Rattle.sem_query.specs.Parts.{pairs}
use Rattle.exec_part_index.proofs.PreparedParts.{prepared-more}
use Rattle.exec_part_index.proofs.prepared.prepare_parts.Goals as goal

pub parts-preserved : goal.parts-preserved
parts-preserved c =
    prepared-more (pairs c.args.q.now) c.args.parts.now c.parts.prepared.items _ c.parts.i c.get.result.now c.get.result.now c.in_ok-prepare.field-0 (omega arith) (c.get.ensures c.get.result.now) c.in_ok-push.ensures.items c.parts.invariant c.in_ok-prepare.ensures
