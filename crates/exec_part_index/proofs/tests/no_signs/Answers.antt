use Rattle.std.proofs.Common.{[], arith}
use Rattle.exec_part_index.proofs.TestsLaws.{part_more, none_shown}
use Rattle.exec_part_index.proofs.tests.no_signs.Goals as goal

pub parts-preserved : goal.parts-preserved
parts-preserved c =
    part_more c.args.q.now c.args.place [] c.args.parts.now c.parts.all.items _ c.parts.k c.get-part.result.now c.get-part.result.now c.new.result (omega arith) (c.get-part.ensures c.get-part.result.now)
    c.in_ok-push.ensures.items c.parts.invariant (none_shown c.args.q.now c.args.place c.get-part.result.now c.new.result c.new.ensures)
