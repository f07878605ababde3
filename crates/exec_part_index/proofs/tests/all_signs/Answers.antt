use Rattle.std.proofs.Common.{arith}
use Rattle.exec_part_index.specs.Showing.{pairs_tested}
use Rattle.exec_part_index.proofs.TestsLaws.{part_more}
use Rattle.exec_part_index.proofs.tests.all_signs.Goals as goal

pub parts-preserved : goal.parts-preserved
parts-preserved c =
    part_more c.args.q.now c.args.place (pairs_tested c.args.tests.now) c.args.parts.now c.parts.all.items _ c.parts.k c.get.result.now c.get.result.now c.in-Some.signs (omega arith) (c.get.ensures c.get.result.now)
    c.in_ok-push.ensures.items c.parts.invariant c.in-Some.ensures
